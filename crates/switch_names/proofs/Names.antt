-- Names in either order.
use Rattle.std.proofs.Common.{◌≡◌}
use Rattle.std.specs.Cmp.{eq_by_cmp_equiv}
use Rattle.std.specs.Cmp.Lexicographic.{nat_list_cmp_total}
use Rattle.switch_names.specs.Names.{Name, is_name}

pub name_turned : (a b : Name) → is_name a b ≡ is_name b a
name_turned a b = (eq_by_cmp_equiv nat_list_cmp_total).symm a b

-- There is one collection of a world.
use Rattle.std.proofs.Common.{◌≡◌, ℕ, true, List, Option, None, Some, IfSome, refl, sym, ap, subst, ◌∙◌}
use Rattle.std.specs.List.{AllByRecursion}
use Rattle.generations.specs.declared.gens.Gen.{Gen}
use Rattle.generations.specs.declared.gens.Gens.{Gens}
use Rattle.generations.specs.Gens.{IsGensOf}
use Rattle.generations.specs.Move.{gens_at}
use Rattle.generations.specs.Places.{IsCurrent, is_number}
use Rattle.generations.proofs.PointLemmas.{at_of_list, gens_at_numbers, gens_at_systems}
use Rattle.host_trait.specs.World.{Leaves}
use Rattle.owed_lists.proofs.ListLemmas.{one_list}
use Rattle.switch_names.specs.Names.{IsListOf, Name, has}
use Rattle.switch_names.specs.SystemName.{IsSystemPath}
use Rattle.boot_entries.specs.Texts.{menu_of}
use Rattle.store_live.specs.Live.{IsDead}
use Rattle.store_collect.specs.Collection.{leaves_of, passed_over}
use Rattle.store_collect.specs.Kept.{gens_kept, links_gone}
use Rattle.store_collect.specs.Laws.{OneCollectionLaw}

module _ (leaves : Leaves) (one other : Gens) (is : IsGensOf leaves one) (also : IsGensOf leaves other) where
  pub of_list : (gens : Gens) → IsGensOf leaves gens → gens.list ≡ (gens_at 0 leaves).list
  of_list gens stand = ap (λ (g : Gens). g.list) (at_of_list leaves gens (record { list = gens.list; current = Some 0 }) 0 stand refl refl)

  current_same : (a b : Option ℕ) → one.current ≡ a → other.current ≡ b → one.current ≡ other.current
  current_same (Some n) b is_a is_b = is_a ∙ sym (also.only_current n (subst (λ c. IfSome c (IsCurrent leaves)) is_a is.current))
  current_same None (Some n) is_a is_b = is.only_current n (subst (λ c. IfSome c (IsCurrent leaves)) is_b also.current) ∙ sym is_b
  current_same None None is_a is_b = is_a ∙ sym is_b

  pub one_gens : one ≡ other
  one_gens =
      let list = of_list one is ∙ sym (of_list other also) in
      let current = current_same one.current other.current refl refl in
      λ i. record { list = list i; current = current i }

-- their numbers are such, and each that has a target names a system
pub of_numbers : (leaves : Leaves) (gens : Gens) → IsGensOf leaves gens → AllByRecursion (λ (gen : Gen). is_number gen.number ≡ true) gens.list
of_numbers leaves gens stand = subst (AllByRecursion (λ (gen : Gen). is_number gen.number ≡ true)) (sym (of_list leaves gens gens stand stand gens stand)) (gens_at_numbers 0 leaves)

pub of_systems : (leaves : Leaves) (gens : Gens) → IsGensOf leaves gens → AllByRecursion (λ (gen : Gen). IfSome gen.target IsSystemPath) gens.list
of_systems leaves gens stand = subst (AllByRecursion (λ (gen : Gen). IfSome gen.target IsSystemPath)) (sym (of_list leaves gens gens stand stand gens stand)) (gens_at_systems 0 leaves)

pub one_collection : OneCollectionLaw
one_collection keep w one other is also =
    let gens = one_gens w.leaves is.gens also.gens is.stand also.stand in
    let links = is.planned.links ∙ ap (links_gone keep) gens ∙ sym also.planned.links in
    let texts = is.planned.texts ∙ ap (λ (g : Gens). menu_of (gens_kept keep g) w.leaves) gens ∙ sym also.planned.texts in
    let skips : passed_over one.links one.texts ≡ passed_over other.links other.texts = λ i. passed_over (links i) (texts i) in
    let names = one_list one.names other.names (IsDead (has (passed_over other.links other.texts)) w) (subst (λ (l : List Name). IsListOf one.names (IsDead (has l) w)) skips is.planned.names) also.planned.names in
    let leaves = is.planned.leaves ∙ ap (λ (l : List Name). leaves_of l w.leaves) names ∙ sym also.planned.leaves in
    λ i. record { links = links i; names = names i; leaves = leaves i; texts = texts i }

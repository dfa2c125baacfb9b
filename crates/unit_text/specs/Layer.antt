-- A file that several texts may share.
use Rattle.std.specs.Prelude.{◌≡◌, ℕ, List, [], None}
use Rattle.unit_text.specs.declared.index.Index.{Index}
use Rattle.unit_text.specs.Index.{IsIndexOf}
use Rattle.unit_text.specs.TextFault.{text_fault}
use Rattle.unit_text.specs.UnitText.{assignments}

-- the bytes of a unit text, with the index of its assignments
pub record IsLayer (bytes : List ℕ) (index : Index) : Type 0 where
  pub sound : text_fault bytes ≡ None
  pub indexed : IsIndexOf [] (assignments bytes) index

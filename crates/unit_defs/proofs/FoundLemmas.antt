-- What is found of units, one place after the other.
use Rattle.std.proofs.Common.{◌≡◌, ℕ, ◌&&◌, Bool, true, false, cond, List, [], ◌∷◌, ◌++◌, Option, None, Some, option_and_then, refl, subst, sym, ap, ◌∙◌}
use Rattle.std.specs.BTreeMap.{get, is_at}
use Rattle.std.specs.Map.{lookup}
use Rattle.std.specs.Option.{option_map_or, option_or, unwrap_or}
use Rattle.std.proofs.lemmas.List.{append-nil}
use Rattle.host_trait.specs.World.{bytes_cmp}
use Rattle.unit_text.specs.declared.assignment.Assignment.{Assignment}
use Rattle.unit_defs.specs.declared.reading.found.FoundUnits.{FoundUnits}
use Rattle.unit_defs.specs.declared.reading.found.UnitFiles.{UnitFiles}
use Rattle.unit_defs.specs.declared.part.FilePart.{FilePart}
use Rattle.unit_defs.specs.declared.place.UnitPlace.TheVariants.{File, DropIn, Want}
use Rattle.unit_defs.specs.Found.{Joins, Takes, drop_in_in, file_in, files_in, line_in, wants_in}
use Rattle.switch_names.specs.Names.{is_name}
use Rattle.host_trait.proofs.NameOrder.{name_exact}

chosen : {X Y : Type 0} (obs : Option X → Y) (b : Bool) (x old : Option X) → obs (cond b x old) ≡ cond b (obs x) (obs old)
chosen obs true x old = refl
chosen obs false x old = refl

kept_choice : {X : Type 0} (b : Bool) (x y : X) → (b ≡ true → x ≡ y) → cond b x y ≡ y
kept_choice true x y same = same refl
kept_choice false x y same = refl

-- what stays the same at a unit stays the same everywhere
kept : {X : Type 0} (unit other : List ℕ) (x : X) (f : List ℕ → X) → x ≡ f unit → cond (is_name unit other) x (f other) ≡ f other
kept unit other x f same = kept_choice (is_name unit other) x (f other) (λ is. same ∙ ap f (name_exact unit other is))

-- of two lines the first stands
pub first_kept : {X : Type 0} (line : Option X) (text : X) → Some (unwrap_or line text) ≡ option_or line (Some text)
first_kept None text = refl
first_kept (Some line) text = refl

-- what is found of a unit, and where nothing is found of it yet, what it begins with
module _ (old : FoundUnits) (unit : List ℕ) (was nothing : UnitFiles) (is : was ≡ unwrap_or (files_in old unit) nothing)
    (no_file : nothing.file ≡ None) (no_drop_ins : nothing.drop_ins.entries ≡ []) (no_line : nothing.line ≡ None) (no_wants : nothing.wants ≡ []) where
  file_was : was.file ≡ file_in old unit
  file_was = ap (λ (f : UnitFiles). f.file) is ∙ by (files_in old unit)
    where
      by : (o : Option UnitFiles) → (unwrap_or o nothing).file ≡ option_and_then (λ (f : UnitFiles). f.file) o
      by None = no_file
      by (Some files) = refl

  drop_in_was : (name : List ℕ) → get bytes_cmp was.drop_ins name ≡ drop_in_in old unit name
  drop_in_was name = ap (λ (f : UnitFiles). get bytes_cmp f.drop_ins name) is ∙ by (files_in old unit)
    where
      by : (o : Option UnitFiles) → get bytes_cmp (unwrap_or o nothing).drop_ins name ≡ option_and_then (λ (f : UnitFiles). get bytes_cmp f.drop_ins name) o
      by None = ap (lookup (is_at (bytes_cmp name))) no_drop_ins
      by (Some files) = refl

  line_was : was.line ≡ line_in old unit
  line_was = ap (λ (f : UnitFiles). f.line) is ∙ by (files_in old unit)
    where
      by : (o : Option UnitFiles) → (unwrap_or o nothing).line ≡ option_and_then (λ (f : UnitFiles). f.line) o
      by None = no_line
      by (Some files) = refl

  wants_was : was.wants ≡ wants_in old unit
  wants_was = ap (λ (f : UnitFiles). f.wants) is ∙ by (files_in old unit)
    where
      by : (o : Option UnitFiles) → (unwrap_or o nothing).wants ≡ option_map_or (λ (f : UnitFiles). f.wants) o []
      by None = no_wants
      by (Some files) = refl

  -- these files are put at the unit
  abbrev Puts : FoundUnits → UnitFiles → Type 0
  Puts new files = (other : List ℕ) → files_in new other ≡ cond (is_name unit other) (Some files) (files_in old other)

  module _ (new : FoundUnits) (files : UnitFiles) (given : Puts new files) where
    at : {Y : Type 0} (obs : Option UnitFiles → Y) (other : List ℕ) → obs (files_in new other) ≡ cond (is_name unit other) (obs (Some files)) (obs (files_in old other))
    at obs other = ap obs (given other) ∙ chosen obs (is_name unit other) (Some files) (files_in old other)

    file_at : (other : List ℕ) → file_in new other ≡ cond (is_name unit other) files.file (file_in old other)
    file_at other = at (option_and_then (λ (one : UnitFiles). one.file)) other

    drop_in_at : (other name : List ℕ) → drop_in_in new other name ≡ cond (is_name unit other) (get bytes_cmp files.drop_ins name) (drop_in_in old other name)
    drop_in_at other name = at (option_and_then (λ (one : UnitFiles). get bytes_cmp one.drop_ins name)) other

    line_at : (other : List ℕ) → line_in new other ≡ cond (is_name unit other) files.line (line_in old other)
    line_at other = at (option_and_then (λ (one : UnitFiles). one.line)) other

    wants_at : (other : List ℕ) → wants_in new other ≡ cond (is_name unit other) files.wants (wants_in old other)
    wants_at other = at (λ one. option_map_or (λ (f : UnitFiles). f.wants) one []) other

    file_same : files.file ≡ was.file → (other : List ℕ) → file_in new other ≡ file_in old other
    file_same same other = file_at other ∙ kept unit other _ (file_in old) (same ∙ file_was)

    drop_in_same : files.drop_ins ≡ was.drop_ins → (other name : List ℕ) → drop_in_in new other name ≡ drop_in_in old other name
    drop_in_same same other name = drop_in_at other name ∙ kept unit other _ (λ u. drop_in_in old u name) (ap (λ ds. get bytes_cmp ds name) same ∙ drop_in_was name)

    line_same : files.line ≡ was.line → (other : List ℕ) → line_in new other ≡ line_in old other
    line_same same other = line_at other ∙ kept unit other _ (line_in old) (same ∙ line_was)

    wants_same : files.wants ≡ was.wants → (other : List ℕ) → wants_in new other ≡ wants_in old other
    wants_same same other = wants_at other ∙ kept unit other _ (wants_in old) (same ∙ wants_was)

  pub takes_file : (new : FoundUnits) (part : Option FilePart) → Puts new (record { file = part; drop_ins = was.drop_ins; line = was.line; wants = was.wants }) → Takes (Some (File unit)) part old new
  takes_file new part given = record {
    file = λ other. file_at new _ given other;
    drop_in = λ other name. drop_in_same new _ given refl other name;
    line = λ other. line_same new _ given refl other;
    wants = λ other. wants_same new _ given refl other ∙ sym (append-nil (wants_in old other));
  }

  pub takes_drop_in : (new : FoundUnits) (name : List ℕ) (content : Option FilePart) (part : FilePart) (files : UnitFiles) → content ≡ Some part → Puts new files → files.file ≡ was.file → files.line ≡ was.line → files.wants ≡ was.wants →
      ((other : List ℕ) → get bytes_cmp files.drop_ins other ≡ option_or (get bytes_cmp was.drop_ins other) (cond (is_name name other) (Some part) None)) →
      Takes (Some (DropIn unit name)) content old new
  takes_drop_in new name content part files is_part given file line wants drops = subst (λ one. Takes (Some (DropIn unit name)) one old new) (sym is_part) (record {
    file = λ other. file_same new files given file other;
    drop_in = λ other other_name. drop_in_at new files given other other_name
        ∙ ap (λ d. cond (is_name unit other) d (drop_in_in old other other_name)) (drops other_name ∙ ap (λ d. option_or d (cond (is_name name other_name) (Some part) None)) (drop_in_was other_name))
        ∙ new_drop_in other other_name;
    line = λ other. line_same new files given line other;
    wants = λ other. wants_same new files given wants other ∙ sym (append-nil (wants_in old other));
  })
    where
      by : (b c : Bool) (x y : Option FilePart) → (b ≡ true → x ≡ y) → cond b (option_or x (cond c (Some part) None)) y ≡ option_or y (cond (b && c) (Some part) None)
      by true c x y same = ap (λ o. option_or o (cond c (Some part) None)) (same refl)
      by false c x None same = refl
      by false c x (Some y) same = refl

      new_drop_in : (other other_name : List ℕ) →
          cond (is_name unit other) (option_or (drop_in_in old unit other_name) (cond (is_name name other_name) (Some part) None)) (drop_in_in old other other_name)
          ≡ option_or (drop_in_in old other other_name) (cond (is_name unit other && is_name name other_name) (Some part) None)
      new_drop_in other other_name =
          by (is_name unit other) (is_name name other_name) (drop_in_in old unit other_name) (drop_in_in old other other_name)
          (λ is. ap (λ u. drop_in_in old u other_name) (name_exact unit other is))

  pub takes_want : (new : FoundUnits) (name : List ℕ) (files : UnitFiles) → Puts new files → files.file ≡ was.file → files.drop_ins ≡ was.drop_ins → files.line ≡ was.line → files.wants ≡ was.wants ++ name ∷ [] →
      (part : Option FilePart) → Takes (Some (Want unit name)) part old new
  takes_want new name files given file drops line wants part = record {
    file = λ other. file_same new files given file other;
    drop_in = λ other other_name. drop_in_same new files given drops other other_name;
    line = λ other. line_same new files given line other;
    wants = λ other. wants_at new files given other ∙ ap (λ w. cond (is_name unit other) w (wants_in old other)) (wants ∙ ap (λ w. w ++ name ∷ []) wants_was) ∙ by other;
  }
    where
      choice : (b : Bool) (x y : List (List ℕ)) → (b ≡ true → x ≡ y) → cond b (x ++ name ∷ []) y ≡ y ++ cond b (name ∷ []) []
      choice true x y same = ap (λ w. w ++ name ∷ []) (same refl)
      choice false x y same = sym (append-nil y)

      by : (other : List ℕ) → cond (is_name unit other) (wants_in old unit ++ name ∷ []) (wants_in old other) ≡ wants_in old other ++ cond (is_name unit other) (name ∷ []) []
      by other = choice (is_name unit other) (wants_in old unit) (wants_in old other) (λ is. ap (wants_in old) (name_exact unit other is))

  pub joins_line : (new : FoundUnits) (text : List Assignment) (files : UnitFiles) → Puts new files → files.file ≡ was.file → files.drop_ins ≡ was.drop_ins →
      files.line ≡ option_or was.line (Some text) → files.wants ≡ was.wants → Joins (λ other. cond (is_name unit other) (Some text) None) (λ other. []) old new
  joins_line new text files given file drops line wants = record {
    file = λ other. file_same new files given file other;
    drop_in = λ other name. drop_in_same new files given drops other name;
    line = λ other. line_at new files given other ∙ ap (λ l. cond (is_name unit other) l (line_in old other)) (line ∙ ap (λ l. option_or l (Some text)) line_was)
        ∙ by (is_name unit other) (line_in old unit) (line_in old other) (λ is. ap (line_in old) (name_exact unit other is));
    wants = λ other. wants_same new files given wants other ∙ sym (append-nil (wants_in old other));
  }
    where
      by : (b : Bool) (x y : Option (List Assignment)) → (b ≡ true → x ≡ y) → cond b (option_or x (Some text)) y ≡ option_or y (cond b (Some text) None)
      by true x y same = ap (λ o. option_or o (Some text)) (same refl)
      by false x None same = refl
      by false x (Some y) same = refl

-- a drop-in without content changes nothing
pub takes_nothing : (unit name : List ℕ) (old : FoundUnits) → Takes (Some (DropIn unit name)) None old old
takes_nothing unit name old = record { file = λ other. refl; drop_in = λ other other_name. refl; line = λ other. refl; wants = λ other. sym (append-nil (wants_in old other)) }

pub takes_no_place : (part : Option FilePart) (old : FoundUnits) → Takes None part old old
takes_no_place part old = record { file = λ other. refl; drop_in = λ other other_name. refl; line = λ other. refl; wants = λ other. sym (append-nil (wants_in old other)) }

-- ---- a drop-in is put where none of its name stands

-- at the name stands what stood there, or else this
pub put_new : {X : Type 0} (old new : List (List ℕ × X)) (name : List ℕ) (x : X) →
    ((q : List ℕ) → lookup (is_at (bytes_cmp q)) new ≡ cond (is_at (bytes_cmp name) q) (Some (unwrap_or (lookup (is_at (bytes_cmp name)) old) x)) (lookup (is_at (bytes_cmp q)) old)) →
    (q : List ℕ) → lookup (is_at (bytes_cmp q)) new ≡ option_or (lookup (is_at (bytes_cmp q)) old) (cond (is_name name q) (Some x) None)
put_new {X} old new name x updated q = updated q ∙ by (is_name name q) (lookup (is_at (bytes_cmp name)) old) (lookup (is_at (bytes_cmp q)) old)
    (λ is. ap (λ n. lookup (is_at (bytes_cmp n)) old) (name_exact name q is))
  where
    by : (b : Bool) (there o : Option X) → (b ≡ true → there ≡ o) → cond b (Some (unwrap_or there x)) o ≡ option_or o (cond b (Some x) None)
    by true there o same = first_kept there x ∙ ap (λ p. option_or p (Some x)) (same refl)
    by false there None same = refl
    by false there (Some y) same = refl

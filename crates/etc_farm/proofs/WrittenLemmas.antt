-- What putting entries writes, and then the last clean list.
use Rattle.std.proofs.Common.{◌≡◌, ◌≢◌, ◌<◌, ◌+◌, ◌||◌, ℕ, Bool, true, false, not, cond, List, [], ◌∷◌, ◌++◌, append-nil, append_assoc, MatchBool, Option, Some, length, map, filter, take, get_or, sym, ap, subst, ◌∙◌, ⊎_elim}
use Rattle.std.proofs.lemmas.Bool.{or_from, or_left, or_right}
use Rattle.std.proofs.lemmas.List.{map-append, take_more}
use Rattle.std.proofs.lemmas.List.Elements.{filter-append}
use Rattle.std.specs.FinMap.{get}
use Rattle.switch_names.specs.Names.{Name, has}
use Rattle.host_trait.specs.declared.leaf.LeafKind.{LeafKind}
use Rattle.host_trait.specs.Host.{HostState, Leads, Told}
use Rattle.host_trait.specs.World.{WorldState, seen}
use Rattle.host_trait.proofs.Moments.{leads_then, one_world}
use Rattle.tree_put.specs.declared.leaf_put.LeafPut.{LeafPut}
use Rattle.tree_put.specs.Put.{IsPutIfOther, written_if}
use Rattle.tree_put.specs.Sequence.{with_puts}
use Rattle.etc_manifest.specs.declared.item.Item.{Item}
use Rattle.etc_manifest.specs.Manifest.{places}
use Rattle.etc_clean.specs.CleanList.{clean_name}
use Rattle.etc_clean.specs.Farm.{at}
use Rattle.etc_clean.specs.Names.{place}
use Rattle.etc_clean.proofs.KeepsLemmas.{clean_owned}
use Rattle.etc_clean.proofs.NameLemmas.{clean_reserved, not_reserved_other}
use Rattle.etc_farm.specs.Steps.{CanPutEntries, puts_but}
use Rattle.etc_farm.specs.Written.{WritesEntries, WritesLast, open_names}
use Rattle.etc_farm.proofs.EntryLemmas.{at_seen, manifest_free}
use Rattle.etc_farm.proofs.PutLemmas.{IsEntryPut, IsPutOf, all_entry_puts, known_by, one_name, puts_at}

-- ---- one entry after another

pub none_written : (blocked standing : List Name) (w : WorldState) → WritesEntries [] blocked standing w w
none_written blocked standing w = sym (append-nil w.written)

module _ (blocked standing : List Name) (items : List Item) (i : ℕ) (item : Item) (inside : i < length items) (is : item ≡ get_or items i item) where
  abbrev so_far : List Name
  so_far = open_names blocked standing (take i items)

  abbrev with_it : Bool → List Name
  with_it passed_over = so_far ++ cond (not passed_over) (item.place ∷ []) []

  next_names : open_names blocked standing (take (i + 1) items) ≡ with_it (has blocked item.place || has standing item.place)
  next_names =
      ap (λ (list : List Item). open_names blocked standing list) (take_more items i item inside ∙ ap (λ k. take i items ++ k ∷ []) (sym is))
      ∙ ap (λ (names : List Name). filter (λ (name : Name). not (has blocked name || has standing name)) names) (map-append (λ (x : Item). x.place) (take i items) (item ∷ []))
      ∙ filter-append (λ (name : Name). not (has blocked name || has standing name)) (places (take i items)) (item.place ∷ [])

  passed_over : (w v : WorldState) → (has blocked item.place || has standing item.place) ≡ true → WritesEntries (take i items) blocked standing w v → WritesEntries (take (i + 1) items) blocked standing w v
  passed_over w v there wrote = wrote ∙ ap (λ (names : List Name). w.written ++ map place names) (sym (next_names ∙ ap with_it there ∙ append-nil so_far))

  pub blocked_unwritten : has blocked item.place ≡ true → (w v : WorldState) → WritesEntries (take i items) blocked standing w v → WritesEntries (take (i + 1) items) blocked standing w v
  blocked_unwritten there w v wrote = passed_over w v (or_left (has blocked item.place) (has standing item.place) there) wrote

  pub standing_unwritten : has standing item.place ≡ true → (w v : WorldState) → WritesEntries (take i items) blocked standing w v → WritesEntries (take (i + 1) items) blocked standing w v
  standing_unwritten there w v wrote = passed_over w v (or_right (has blocked item.place) (has standing item.place) there) wrote

  pub written_next : has blocked item.place ≡ false → has standing item.place ≡ false → (w v u : WorldState) → WritesEntries (take i items) blocked standing w v →
      u.written ≡ v.written ++ place item.place ∷ [] → WritesEntries (take (i + 1) items) blocked standing w u
  written_next unblocked other w v u wrote now =
      now ∙ ap (λ ps. ps ++ place item.place ∷ []) wrote ∙ append_assoc w.written (map place so_far) (place item.place ∷ [])
      ∙ ap (λ ps. w.written ++ ps) (sym (map-append place so_far (item.place ∷ [])))
      ∙ ap (λ (names : List Name). w.written ++ map place names) (sym (next_names ∙ ap with_it (or_from (has blocked item.place) (has standing item.place) unblocked other)))

-- ---- the last clean list

-- the puts of entries leave the clean list
pub clean_beside : (items : List Item) (blocked : List Name) (w v : WorldState) → CanPutEntries items blocked w → seen v ≡ seen (with_puts (puts_but blocked items) w) → at v.leaves clean_name ≡ at w.leaves clean_name
clean_beside items blocked w v can came =
    at_seen (with_puts (puts_but blocked items) w) v clean_name clean_owned came
    ∙ ⊎_elim
    (λ same. same)
    (λ (one : IsPutOf (IsEntryPut items (has blocked)) (place clean_name) (at (with_puts (puts_but blocked items) w).leaves clean_name)).
    let name = one_name one.is.name clean_name (sym (ap (λ (put : LeafPut). put.at) one.is.is) ∙ one.there) in
    absurd (not_reserved_other one.is.name clean_name (manifest_free items can.manifest one.is.name (known_by items one.is.name one.is.kind one.is.known)) clean_reserved name))
    (puts_at (IsEntryPut items (has blocked)) (place clean_name) (puts_but blocked items) (all_entry_puts items (has blocked) can.manifest) w)

pub last_wrote :
    (items : List Item) (blocked standing : List Name) (last : LeafPut) → last.at ≡ place clean_name → {a b c : HostState} (put : Bool) → Told a (CanPutEntries items blocked) →
    Leads a b (λ w v. seen v ≡ seen (with_puts (puts_but blocked items) w)) → Leads a b (WritesEntries items blocked standing) →
    Told b (IsPutIfOther last.at last.leaf put) → Leads b c (λ w v. v.written ≡ w.written ++ written_if put last.at) → Leads a c (WritesLast items blocked standing last)
last_wrote items blocked standing last there {b = b} put can led wrote other then =
    leads_then wrote then (WritesLast items blocked standing last)
    (λ w v u is_w is_v one now.
    let come = led.to w is_w in
    let came = subst (λ (x : WorldState). seen x ≡ seen (with_puts (puts_but blocked items) w)) (one_world b.world come.0 v come.1 is_v) come.2 in
    let same = ap (get v.leaves) there ∙ clean_beside items blocked w v (can.has w is_w) came ∙ sym (ap (get w.leaves) there) in
    record {
      put = put;
      other = subst (λ (o : Option LeafKind). MatchBool put (o ≢ Some last.leaf) (o ≡ Some last.leaf)) same (other.has v is_v);
      written = now ∙ ap (λ ps. ps ++ written_if put last.at) one ∙ append_assoc w.written (map place (open_names blocked standing items)) (written_if put last.at);
    })

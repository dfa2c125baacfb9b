use Rattle.std.proofs.Common.{◌≡◌, List, ℕ, ◌∷◌, refl, inl, inr}
use Rattle.node_text.specs.Node.{blank}
use Rattle.node_text.specs.Fields.{file_at, link_at}
use Rattle.node_text.proofs.Nodes.{Reads, file_is_exact, link_is_exact, reads_text, gives_text, gives_again, gives_fault}
use Rattle.node_text.proofs.reading.read_node.Goals as goal

file_reads : (text fields : List ℕ) → text ≡ 70 ∷ blank ∷ fields → Reads text (file_at fields)
file_reads text fields is = reads_text 70 file_at file_is_exact text fields is (inl refl)

link_reads : (text fields : List ℕ) → text ≡ 76 ∷ blank ∷ fields → Reads text (link_at fields)
link_reads text fields is = reads_text 76 link_at link_is_exact text fields is (inr refl)

pub returns-in-Some-clause-ok : goal.returns-in-Some-clause-ok
returns-in-Some-clause-ok c = gives_text _ _ _ (file_reads c.args.bytes.now c.in-Some.fields.now c.in-Some.ensures.some) c.read_file.ensures

pub returns-in-Some-clause-again : goal.returns-in-Some-clause-again
returns-in-Some-clause-again c = gives_again _ _ _ (file_reads c.args.bytes.now c.in-Some.fields.now c.in-Some.ensures.some) c.read_file.ensures

pub returns-in-Some-clause-fault : goal.returns-in-Some-clause-fault
returns-in-Some-clause-fault c = gives_fault _ _ _ (file_reads c.args.bytes.now c.in-Some.fields.now c.in-Some.ensures.some) c.read_file.ensures

pub returns-in-Some-after_tag-clause-ok : goal.returns-in-Some-after_tag-clause-ok
returns-in-Some-after_tag-clause-ok c = gives_text _ _ _ (link_reads c.args.bytes.now c.in-Some-after_tag.fields.now c.in-Some-after_tag.ensures.some) c.read_link.ensures

pub returns-in-Some-after_tag-clause-again : goal.returns-in-Some-after_tag-clause-again
returns-in-Some-after_tag-clause-again c = gives_again _ _ _ (link_reads c.args.bytes.now c.in-Some-after_tag.fields.now c.in-Some-after_tag.ensures.some) c.read_link.ensures

pub returns-in-Some-after_tag-clause-fault : goal.returns-in-Some-after_tag-clause-fault
returns-in-Some-after_tag-clause-fault c = gives_fault _ _ _ (link_reads c.args.bytes.now c.in-Some-after_tag.fields.now c.in-Some-after_tag.ensures.some) c.read_link.ensures

use Rattle.std.proofs.Common.{◌≡◌, ◌+◌, ◌++◌, ◌∷◌, [], map, take, drop, length, option_map, sym, ap, subst, ◌∙◌, append_assoc, append-nil}
use Rattle.std.proofs.lemmas.List.{length_push, map-append, take_more}
use Rattle.id_memory.specs.Ids.{rows_of}
use Rattle.id_memory.specs.declared.id_row.IdRow.{IdRow}
use Rattle.switch_names.specs.Names.{Name}
use Rattle.users_merge.specs.Account.{give}
use Rattle.users_merge.specs.ByName.{found_in}
use Rattle.users_merge.specs.Given.{given_accounts, given_ids}
use Rattle.users_merge.specs.Taken.{AreTakenIn}
use Rattle.users_merge.proofs.GivingLemmas.{give_all, give_end, give_next}
use Rattle.users_merge.proofs.giving.give_each.Goals as goal

pub loop-account-init : goal.loop-account-init
loop-account-init g c =
    let asked = map g.D.Declaration.asked c.args.accounts.now in
    let known = map (λ (row : IdRow). row.id) (rows_of c.args.known.now) in
    let rows = λ (name : Name). option_map g.R.Numbered.id_of (found_in c.args.rows.now.rows name) in
    let none = c.in_ok-given.ensures.items in
    record {
      size = ap length none;
      accounts = ap given_accounts none;
      taken = λ used are.
          subst (λ more. AreTakenIn more known c.args.taken.now.used.keys c.args.taken.now.marked.items) (sym (ap (λ ids. used ++ ids) (ap given_ids none) ∙ append-nil used)) are;
      ids = λ used are. (λ i. given_ids (none i) ++ give rows c.args.known.now (used ++ given_ids (none i)) asked) ∙ ap (λ more. give rows c.args.known.now more asked) (append-nil used);
    }

pub choose-requires : goal.choose-requires
choose-requires g c = (c.loop-account.invariant.taken c.requires.0 c.requires.1).size

pub returns-in_default-clause-ids : goal.returns-in_default-clause-ids
returns-in_default-clause-ids g c = λ used are.
    let asked = g.D.Declaration.asked in
    let rows = λ (name : Name). option_map g.R.Numbered.id_of (found_in c.args.rows.now.rows name) in
    let ids = given_ids c.loop-account.given.items in
    give_end asked rows c.args.known.now c.args.accounts.now c.loop-account.account-index used ids (give rows c.args.known.now used (map asked c.args.accounts.now))
    c.account-item.result c.loop-account-test.true c.account-item.is (c.in_default.ensures (used ++ ids) (c.loop-account.invariant.taken used are)) (c.loop-account.invariant.ids used are)

pub loop-account-preserved : goal.loop-account-preserved
loop-account-preserved g c =
    let asked = g.D.Declaration.asked in
    let rows = λ (name : Name). option_map g.R.Numbered.id_of (found_in c.args.rows.now.rows name) in
    let was = c.loop-account.given.items in
    let ids = given_ids was in
    let known = map (λ (row : IdRow). row.id) (rows_of c.args.known.now) in
    let new_ids : given_ids c.push.new.self.items ≡ ids ++ c.in-Some.id ∷ [] = ap given_ids c.in_ok-push.ensures.items ∙ map-append (λ one. one.id) was _ in
    record {
      size = ap length c.in_ok-push.ensures.items ∙ length_push was _ ∙ ap (λ n. n + 1) c.loop-account.invariant.size;
      accounts =
          ap given_accounts c.in_ok-push.ensures.items ∙ map-append (λ one. one.account.now) was _ ∙ ap (λ accounts. accounts ++ c.account-item.result ∷ []) c.loop-account.invariant.accounts
          ∙ ap (λ account. take c.loop-account.account-index c.args.accounts.now ++ account ∷ []) c.account-item.is
          ∙ sym (take_more c.args.accounts.now c.loop-account.account-index c.account-item.result c.loop-account-test.true);
      taken = λ used are.
          subst (λ more. AreTakenIn (used ++ more) known c.take.new.self.used.keys c.take.new.self.marked.items) (sym new_ids)
          (subst (λ all. AreTakenIn all known c.take.new.self.used.keys c.take.new.self.marked.items) (append_assoc used ids (c.in-Some.id ∷ []))
          (c.in_ok-take.ensures (used ++ ids) known (c.loop-account.invariant.taken used are)));
      ids = λ used are.
          let all = give rows c.args.known.now used (map asked c.args.accounts.now) in
          subst (λ more. more ++ give rows c.args.known.now (used ++ more) (map asked (drop (c.loop-account.account-index + 1) c.args.accounts.now)) ≡ all) (sym new_ids)
          (give_next asked rows c.args.known.now c.args.accounts.now c.loop-account.account-index used ids all c.account-item.result c.in-Some.id c.loop-account-test.true c.account-item.is
          (c.in-Some.ensures (used ++ ids) (c.loop-account.invariant.taken used are)) (c.loop-account.invariant.ids used are));
    }

pub returns-in_default-clause-accounts : goal.returns-in_default-clause-accounts
returns-in_default-clause-accounts g c = c.loop-account.invariant.accounts ∙ ap (λ n. take n c.args.accounts.now) (sym c.loop-account.invariant.size)

pub returns-clause-accounts : goal.returns-clause-accounts
returns-clause-accounts g c = c.loop-account.invariant.accounts ∙ ap (λ n. take n c.args.accounts.now) (sym c.loop-account.invariant.size)

pub returns-clause-ids : goal.returns-clause-ids
returns-clause-ids g c = λ used are.
    let asked = g.D.Declaration.asked in
    let rows = λ (name : Name). option_map g.R.Numbered.id_of (found_in c.args.rows.now.rows name) in
    give_all asked rows c.args.known.now c.args.accounts.now c.loop-account.account-index used (given_ids c.loop-account.given.items) (give rows c.args.known.now used (map asked c.args.accounts.now))
    c.loop-account-test.false (c.loop-account.invariant.ids used are)

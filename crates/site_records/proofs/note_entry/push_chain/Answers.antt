-- The pieces are an entry with the hops after its line; of a chain with a long head nothing is said.
use Rattle.std.proofs.Common.{◌≡◌, ◌++◌, ◌∙◌, true, sym, ap}
use Rattle.std.specs.Prelude.{flat_map}
use Rattle.std.specs.List.{list_all}
use Rattle.answer_notes.specs.HopChains.{HopValue}
use Rattle.site_records.specs.WrittenEntries.{is_short, hop_entry}
use Rattle.site_records.proofs.EntryTextLaws.{on_ok, chain_text}
use Rattle.site_records.proofs.note_entry.push_chain.Goals as goal

pub returns-then-not-branch-clause-note : goal.returns-then-not-branch-clause-note
returns-then-not-branch-clause-note c = λ short.
    let told = c.in_ok-are_short.ensures in
    let are = c.hops-hops.ensures.value in
    let none = c.if-not-branch.true in
    absurd cc

pub returns-clause-text : goal.returns-clause-text
returns-clause-text c =
    let short : list_all (λ (h : HopValue). is_short h.1) c.args.chain.now.hops ≡ true =
    ap (list_all (λ (h : HopValue). is_short h.1)) (sym c.hops-hops.ensures.value) ∙ sym c.in_ok-are_short.ensures ∙ c.if-not-branch.false in
    on_ok c.push_hops.result
    (λ all. chain_text c.args.pieces.now _ _ _ c.args.chain.now.of c.args.chain.now.hops c.in_ok-chain_line.ensures c.in_ok-push_made.ensures.ok
    (all ∙ ap (λ t. c.push_made.new.self ++ flat_map hop_entry t) c.hops-hops.ensures.value) short)
    c.push_hops.ensures.text

-- One more address, or one more origin.
use Rattle.std.proofs.Common.{◌≡◌, ◌++◌, ◌∙◌, ◌∷◌, [], sym, ap, subst}
use Rattle.std.specs.Prelude.{not}
use Rattle.std.specs.List.{list_any}
use Rattle.answer_notes.specs.declared.noted.Noted.{Noted}
use Rattle.site_records.specs.WrittenRecords.{is_repeated, is_page_of, is_chain_of}
use Rattle.site_records.specs.inner.RecordDrafts.{AreDraftsNamed}
use Rattle.site_records.proofs.NamedLaws.{page_added, chain_added, pages_stay, chains_stay}
use Rattle.site_records.proofs.written_record.SeenNames.add.Goals as goal

pub returns-in_ok-insert-in-Page : goal.returns-in_ok-insert-in-Page
returns-in_ok-insert-in-Page c = λ notes h.
    let told = c.in_ok-insert-in-Page.ensures in
    let value = c.as_str.result in
    let at = c.in-Page.at in
    let is = c.as_str.ensures.value in
    let P : Noted → Type 0 = λ n. AreDraftsNamed (record { addresses = c.insert.new.self; origins = c.args.self.now.origins }) (notes ++ n ∷ []) × (c.in_ok-insert-in-Page.field-0 ≡ not (is_repeated notes n)) in
    subst P (sym c.in-Page.is) (
      record {
        pages = page_added c.args.self.now.addresses.keys c.insert.new.self.keys value at c.in-Page.field-1 notes is told.updates.0 h.pages;
        chains = λ q. h.chains q ∙ chains_stay notes at c.in-Page.field-1 q.now;
      },
      told.added ∙ ap not (h.pages value ∙ ap (λ t. list_any (is_page_of t) notes) is),
    )

pub returns-in_ok-insert-in-Chain : goal.returns-in_ok-insert-in-Chain
returns-in_ok-insert-in-Chain c = λ notes h.
    let told = c.in_ok-insert-in-Chain.ensures in
    let value = c.as_str-in-Chain.result in
    let chain = c.in-Chain.chain in
    let is = c.as_str-in-Chain.ensures.value ∙ c.of.ensures in
    let P : Noted → Type 0 = λ n. AreDraftsNamed (record { addresses = c.args.self.now.addresses; origins = c.insert-in-Chain.new.self }) (notes ++ n ∷ []) × (c.in_ok-insert-in-Chain.field-0 ≡ not (is_repeated notes n)) in
    subst P (sym c.in-Chain.is) (
      record {
        pages = λ q. h.pages q ∙ pages_stay notes chain q.now;
        chains = chain_added c.args.self.now.origins.keys c.insert-in-Chain.new.self.keys value chain notes is told.updates.0 h.chains;
      },
      told.added ∙ ap not (h.chains value ∙ ap (λ t. list_any (is_chain_of t) notes) is),
    )

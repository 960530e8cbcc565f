-- The answer goes after the others.
use Rattle.std.proofs.Common.{◌++◌, ◌∷◌, [], ◌∙◌, ap}
use Rattle.std.specs.Str.{bytes_eq}
use Rattle.indexmap.proofs.CallerLemmas.{insert_entry-new}
use Rattle.site_maps.proofs.reading.MapReading.add_answer.Goals as goal

pub returns : goal.returns
returns c = λ fresh.
    let (closes, none) = c.in_ok-claim.ensures fresh in
    let put = insert_entry-new bytes_eq c.claim.new.self.answers c.args.address c.args.outcome (rw closes.answers none) in
    record {
      closed = closes.closed;
      answers = c.in_ok-insert.ensures.entries ∙ put ∙ ap (λ l. l ++ (c.args.address, c.args.outcome) ∷ []) closes.answers;
      rules = closes.rules;
      none = none;
    }

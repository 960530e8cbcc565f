use Rattle.std.proofs.Common.{◌∙◌, ap, length}
use Rattle.std.specs.Prelude.{nat_lt}
use Rattle.std.specs.List.{position_or_len}
use Rattle.cookie_files.proofs.JarLemmas.{placed_at}
use Rattle.cookie_files.proofs.cookies.place.Goals as goal

pub returns : goal.returns
returns c =
    c.in_ok-insert.ensures.items
    ∙ placed_at c.args.cookie c.args.cookies.now.items c.place_of-at.result
    (c.place_of-at.ensures.place ∙ ap (λ n. position_or_len (λ other. nat_lt (length other.path) n) c.as_slice.result.now) c.path_len.ensures ∙ ap (position_or_len (λ other. nat_lt (length other.path) (length c.args.cookie.path))) c.as_slice.ensures.value)

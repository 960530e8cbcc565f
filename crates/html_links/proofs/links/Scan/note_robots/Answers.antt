use Rattle.std.proofs.Common.{◌≡◌, Bool, true, false, ◌||◌, refl, sym, ◌∙◌}
use Rattle.html_links.specs.Pieces.{Tag}
use Rattle.html_links.specs.Links.{is_nofollow}
use Rattle.html_links.proofs.links.Scan.note_robots.Goals as goal
use Rattle.html_links.proofs.links.Scan.note_robots.Goals.{else-is_name-via-then-is_name+in_ok-value+then-is_robots+in_ok-value-2+else-forbids, else-is_name-via-then-is_name+in_ok-value+else-is_robots, else-is_name-via-else-is_name}

asks : (before : Bool) (tag : Tag) → is_nofollow tag ≡ true → true ≡ (before || is_nofollow tag)
asks true tag is = refl
asks false tag is = sym is

asks_nothing : (before : Bool) (tag : Tag) → is_nofollow tag ≡ false → before ≡ (before || is_nofollow tag)
asks_nothing true tag is = refl
asks_nothing false tag is = sym is

pub returns-then-forbids-clause-nofollow : goal.returns-then-forbids-clause-nofollow
unfolding is_nofollow
returns-then-forbids-clause-nofollow c =
    asks c.args.self.now.nofollow (record { name = c.args.name.now; attributes = c.args.attributes.now })
    (rw (sym c.is_name.ensures ∙ c.if-is_name.true, sym c.in_ok-value.ensures, sym c.is_robots.ensures ∙ c.if-is_robots.true, sym c.in_ok-value-2.ensures, sym c.forbids.ensures ∙ c.if-forbids.true) refl)

pub returns-else-is_name-clause-nofollow : goal.returns-else-is_name-clause-nofollow
unfolding is_nofollow
returns-else-is_name-clause-nofollow c =
    asks_nothing c.args.self.now.nofollow (record { name = c.args.name.now; attributes = c.args.attributes.now })
    (elim c.else-is_name.branch [
      | else-is_name-via-then-is_name+in_ok-value+then-is_robots+in_ok-value-2+else-forbids w ↦
          rw (sym c.is_name.ensures ∙ w.if-is_name.true, sym w.in_ok-value.ensures, sym w.is_robots.ensures ∙ w.if-is_robots.true, sym w.in_ok-value-2.ensures, sym w.forbids.ensures ∙ w.if-forbids.false) refl
      | else-is_name-via-then-is_name+in_ok-value+else-is_robots w ↦ rw (sym c.is_name.ensures ∙ w.if-is_name.true, sym w.in_ok-value.ensures, sym w.is_robots.ensures ∙ w.if-is_robots.false) refl
      | else-is_name-via-else-is_name w ↦ rw (sym c.is_name.ensures ∙ w.if-is_name.false) refl
    ])

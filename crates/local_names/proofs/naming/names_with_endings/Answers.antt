use Rattle.std.proofs.Common.{true, map, All, ap, sym, ◌∙◌, subst}
use Rattle.std.proofs.lemmas.List.{length-map}
use Rattle.std.specs.String.{string_bytes}
use Rattle.local_names.specs.Endings.{ended_names}
use Rattle.local_names.specs.Names.{IsNamingBy}
use Rattle.local_names.specs.LocalNames.{StaysInside, HasShortSegmentsBy, IsUncontrolled, IsNoPart}
use Rattle.local_names.proofs.EndingLaws.{length-ended_names}
use Rattle.local_names.proofs.NamingLaws.{IsNamingBy-sole, IsNaming-distinct, IsNaming-apart}
use Rattle.local_names.proofs.OriginalLaws.{all_ended_end}
use Rattle.local_names.proofs.DirectoryLaws.{names_leave}
use Rattle.local_names.proofs.PlainLaws.{ended_are, all_names, names_show, IsParted, made_stays_inside, made_text, texts}
use Rattle.local_names.proofs.naming.names_with_endings.Goals as goal

pub returns : goal.returns
returns c =
    let rules = c.args.rules.now in
    let pages = c.args.pages.now in
    let kinds = c.args.kinds.now in
    let plain = ended_names rules pages kinds in
    let names = map string_bytes c.in_ok-assign.field-0.items in
    let naming : IsNamingBy true plain names = subst (λ p. IsNamingBy true p names) (ap (map string_bytes) c.deref.ensures.value ∙ c.in_ok-plain.ensures.names) c.in_ok-assign.ensures in
    let are = ended_are rules pages kinds c.in_ok-plain.ensures.addresses in
    record {
      naming = naming;
      sole = λ others other. IsNamingBy-sole true plain names others naming other;
      shown = names_show rules pages kinds names naming;
      count = sym (length-map c.in_ok-assign.field-0.items string_bytes) ∙ naming.count ∙ length-ended_names rules pages kinds;
      distinct = IsNaming-distinct true plain names naming;
      apart = IsNaming-apart true plain names naming;
      inside = all_names rules StaysInside true plain names naming are (λ name is. made_stays_inside name is.made);
      short = all_names rules (HasShortSegmentsBy true) true plain names naming are (λ name is. is.short);
      text = texts c.in_ok-assign.field-0.items (all_names rules (All IsUncontrolled) true plain names naming are (λ name is. made_text name is.made));
      no_part = all_names rules IsNoPart true plain names naming are (λ name is. is.no_part);
      free = λ on. names_leave rules true plain names naming on (all_ended_end rules pages kinds on) (all_names rules (IsParted rules) true plain names naming are (λ name is. is.parted));
    }

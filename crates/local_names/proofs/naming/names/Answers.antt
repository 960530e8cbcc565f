use Rattle.std.proofs.Common.{false, map, All, ap, sym, ◌∙◌, subst}
use Rattle.std.proofs.lemmas.List.{length-map}
use Rattle.std.specs.String.{string_bytes}
use Rattle.local_names.specs.PlainNames.{plain_name_of}
use Rattle.local_names.specs.Names.{IsNaming}
use Rattle.local_names.specs.LocalNames.{StaysInside, HasShortSegments, IsUncontrolled, IsNoPart}
use Rattle.local_names.proofs.NamingLaws.{IsNaming-sole, IsNaming-distinct, IsNaming-apart}
use Rattle.local_names.proofs.OriginalLaws.{all_plain_end}
use Rattle.local_names.proofs.DirectoryLaws.{names_leave}
use Rattle.local_names.proofs.PlainLaws.{plain_are, all_names, IsParted, made_stays_inside, made_text, texts}
use Rattle.local_names.proofs.ServedLaws.{served_names}
use Rattle.local_names.proofs.naming.names.Goals as goal

pub returns : goal.returns
returns c =
    let rules = c.args.rules.now in
    let pages = c.args.pages.now in
    let plain = map (plain_name_of rules) pages in
    let names = map string_bytes c.in_ok-assign.field-0.items in
    let naming : IsNaming plain names = subst (λ p. IsNaming p names) (ap (map string_bytes) c.deref.ensures.value ∙ c.in_ok-plain.ensures.names) c.in_ok-assign.ensures in
    let addresses = c.in_ok-plain.ensures.addresses in
    let are = plain_are rules pages addresses in
    record {
      naming = naming;
      sole = λ others other. IsNaming-sole plain names others naming other;
      count = sym (length-map c.in_ok-assign.field-0.items string_bytes) ∙ naming.count ∙ length-map pages (plain_name_of rules);
      distinct = IsNaming-distinct false plain names naming;
      apart = IsNaming-apart false plain names naming;
      inside = all_names rules StaysInside false plain names naming are (λ name is. made_stays_inside name is.made);
      short = all_names rules HasShortSegments false plain names naming are (λ name is. is.short);
      text = texts c.in_ok-assign.field-0.items (all_names rules (All IsUncontrolled) false plain names naming are (λ name is. made_text name is.made));
      no_part = all_names rules IsNoPart false plain names naming are (λ name is. is.no_part);
      free = λ on. names_leave rules false plain names naming on (all_plain_end rules pages on) (all_names rules (IsParted rules) false plain names naming are (λ name is. is.parted));
      served = λ usual. served_names pages names (subst (λ r. IsNaming (map (plain_name_of r) pages) names) usual naming) addresses;
    }

use Rattle.std.proofs.Common.{map}
use Rattle.std.specs.String.{string_bytes}
use Rattle.local_names.specs.inner.Units.{unit_text}
use Rattle.local_names.proofs.PlainLaws.{plain_steps}
use Rattle.local_names.proofs.plain_name.name_within.Goals as goal

pub returns : goal.returns
returns c =
    let is = c.as_str.ensures.address in
    record {
      name = plain_steps c.args.room c.args.rules.now c.args.page.now is (string_bytes c.in_ok-name.name) (string_bytes c.push_front.new.name) (string_bytes c.push_within.new.name) (map unit_text c.in_ok-last_units.field-0.items)
          c.in_ok-name.ensures.bytes c.in_ok-push_front.ensures c.in_ok-last_units.ensures c.in_ok-push_within.ensures;
      address = is;
    }

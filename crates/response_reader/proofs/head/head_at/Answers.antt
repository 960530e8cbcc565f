use Rattle.std.proofs.Common.{◌≡◌, Err, ap, inr, refl}
use Rattle.httparse.specs.declared.Error.{Error}
use Rattle.response_reader.specs.declared.fault.ReadFault.TheVariants.{Head, HeadLong}
use Rattle.response_reader.proofs.head.head_at.Goals as goal

long_is_not_head : HeadLong ≡ Head → ⊥
long_is_not_head is = cc

pub returns-in-Ok-Complete : goal.returns-in-Ok-Complete
returns-in-Ok-Complete c = record {
  within = rw c.in-Ok-Complete.field-0-is at c.in-Ok-Complete.ensures.within;
  whole = rw c.in-Ok-Complete.field-0-is at c.in-Ok-Complete.ensures.complete;
  none = tt;
  unfinished = tt;
  head = tt;
  exceeds = tt;
  long = tt;
  only = tt;
}

pub returns-in-Ok-Partial : goal.returns-in-Ok-Partial
returns-in-Ok-Partial c = record {
  within = tt;
  whole = tt;
  none = rw c.in-Ok-Partial.field-0-is at c.in-Ok-Partial.ensures.partial;
  unfinished = rw c.in-Ok-Partial.field-0-is at c.in-Ok-Partial.ensures.unfinished;
  head = tt;
  exceeds = tt;
  long = tt;
  only = tt;
}

pub returns-in-Err-TooManyHeaders : goal.returns-in-Err-TooManyHeaders
returns-in-Err-TooManyHeaders c =
    let e = c.in-Err-TooManyHeaders.ensures in
    record {
      within = tt;
      whole = tt;
      none = tt;
      unfinished = tt;
      head = λ is. absurd (long_is_not_head is);
      exceeds = λ is. e.too_many (ap (λ (other : Error). Err other) c.in-Err-TooManyHeaders.field-0-is);
      long = λ is. e.no_room;
      only = inr refl;
    }

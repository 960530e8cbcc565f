use Rattle.std.proofs.Common.{◌≡◌, ℕ, List, length, Err, ap, inr, refl}
use Rattle.httparse.specs.declared.Error.{Error}
use Rattle.httparse.specs.declared.spans.HeaderSpan.{HeaderSpan}
use Rattle.httparse.specs.Spans.{IsSectionWithin, IsSectionOf}
use Rattle.response_reader.specs.declared.fault.ReadFault.TheVariants.{Chunk, HeadLong}
use Rattle.response_reader.specs.declared.limits.TheConstants.{MAX_FIELDS}
use Rattle.response_reader.specs.inner.ChunkStage.{HasSection}
use Rattle.response_reader.proofs.HeadsStageLemmas.{few_fields}
use Rattle.response_reader.proofs.trailers.trailers_at.Goals as goal

long_is_not_chunk : HeadLong ≡ Chunk → ⊥
long_is_not_chunk is = cc

section_found : (buf : List ℕ) (spans : List HeaderSpan) (len count : ℕ) → length spans ≡ MAX_FIELDS → IsSectionWithin buf spans len count → IsSectionOf buf 0 spans (len, count)
    → HasSection (length buf) buf len
section_found buf spans len count room within found = record {
  fields = found.0;
  last = found.1;
  reads = found.2.reads;
  few = few_fields buf spans count found.0 room found.2.fields_are;
  there = within.len_fits;
  fits = within.len_fits;
}

pub returns-in-Ok-Complete : goal.returns-in-Ok-Complete
returns-in-Ok-Complete c =
    let e = c.in-Ok-Complete.ensures in
    record {
      whole = section_found c.args.buf.now c.parse_headers.new.headers c.in-Ok-Complete.len c.in-Ok-Complete.field-0-0-1 c.parse_headers.auto.headers
          (rw c.in-Ok-Complete.field-0-is at e.within) (rw c.in-Ok-Complete.field-0-is at e.complete);
      none = tt;
      unfinished = tt;
      chunk = tt;
      exceeds = tt;
      long = tt;
      only = tt;
    }

pub returns-in-Ok-Partial : goal.returns-in-Ok-Partial
returns-in-Ok-Partial c = record {
  whole = tt;
  none = rw c.in-Ok-Partial.field-0-is at c.in-Ok-Partial.ensures.partial;
  unfinished = rw c.in-Ok-Partial.field-0-is at c.in-Ok-Partial.ensures.unfinished;
  chunk = tt;
  exceeds = tt;
  long = tt;
  only = tt;
}

pub returns-in-Err-TooManyHeaders : goal.returns-in-Err-TooManyHeaders
returns-in-Err-TooManyHeaders c =
    let e = c.in-Err-TooManyHeaders.ensures in
    record {
      whole = tt;
      none = tt;
      unfinished = tt;
      chunk = λ is. absurd (long_is_not_chunk is);
      exceeds = λ is. e.too_many (ap (λ (other : Error). Err other) c.in-Err-TooManyHeaders.field-0-is);
      long = λ is. e.no_room;
      only = inr refl;
    }

-- What was used of a wire, all of it and nothing after it.
use Rattle.std.proofs.Common.{◌≡◌, Bool, IsFalse, ℕ, ◌+◌, ◌-◌, ◌≤◌, List, [], ◌++◌, length, refl, sym, ap, ◌∙◌, subst, arith, append_assoc, append-nil, length-append, Option, Some, None}
use Rattle.std.specs.Prelude.{not, ◌&&◌, ◌==◌}
use Rattle.std.specs.Io.KnownBytes.{Consumes, IsAtEnd, prepend_known}
use Rattle.response_reader.specs.declared.fields.Framing.{Framing}
use Rattle.response_reader.specs.declared.fields.Framing.TheVariants.{NoBody, Sized, Chunked, UntilClose}
use Rattle.response_reader.specs.Fields.{HeadParts}
use Rattle.response_reader.specs.Limits.{Limited}
use Rattle.response_reader.specs.Heads.{fields_of}
use Rattle.response_reader.specs.Bodies.{ReadsSize, joined}
use Rattle.response_reader.specs.inner.ChunkStage.{TookLine, TookTrailers, PassedChunks}
use Rattle.response_reader.specs.inner.HeadsStage.{FramesAhead}
use Rattle.response_reader.specs.inner.Passes.{Passed, PassedAll, TookBody}
use Rattle.response_reader.specs.Reusable.{Reusable, is_open}
use Rattle.response_reader.specs.declared.fault.ReadFault.{ReadFault}
use Rattle.response_reader.specs.declared.fault.ReadFault.TheVariants.{Device}
use Rattle.response_reader.specs.inner.Fills.{Fills}
use Rattle.response_reader.specs.inner.Reads.{FaultCounts}
use Rattle.response_reader.specs.Wire.{OfBytes, HasRisen, counted}
use Rattle.response_reader.specs.inner.Wire.{Tally, GivesUp}
use Rattle.response_reader.proofs.ReadLemmas.{nothing_unread}
use Rattle.response_reader.proofs.WireLemmas.{consumes_trans, consumes_same, fills_ahead, told_before}

pub took_none : (limits : Limited) (a : Option (List ℕ)) (used : ℕ) → used + limits.body ≤ limits.response → TookBody limits a a used NoBody
took_none limits a used short =
    record { body = []; text = []; bytes = consumes_same a; reads = λ tail end. (refl, refl); few = omega arith; len = omega arith }

pub took_sized : (limits : Limited) (a b : Option (List ℕ)) (used : ℕ) (P : List ℕ → Type 0) (n : ℕ) → used + limits.body ≤ limits.response → n ≤ limits.body → Passed a b P n
    → TookBody limits a b used (Sized n)
took_sized limits a b used P n short few x = record {
  body = x.piece;
  text = x.piece;
  bytes = x.bytes;
  reads = λ tail end. (x.count_is, refl);
  few = omega (arith, x.count_is);
  len = omega (arith, x.count_is);
}

pub took_open : (limits : Limited) (a b : Option (List ℕ)) (used : ℕ) (P : List ℕ → Type 0) → used + limits.body ≤ limits.response → PassedAll a b P limits.body → TookBody limits a b used UntilClose
took_open limits a b used P short x = record {
  body = x.passed.piece;
  text = x.passed.piece;
  bytes = x.passed.bytes;
  reads = λ tail end. (ap (λ (l : List ℕ). x.passed.piece ++ l) (end refl) ∙ append-nil x.passed.piece, end refl);
  few = omega (arith, x.passed.count_is, x.few);
  len = omega (arith, x.passed.count_is, x.few);
}

pub took_chunked : (limits : Limited) (a b c d : Option (List ℕ)) (P : List ℕ → Type 0) (used room response body len size : ℕ) → room + used ≡ limits.response
    → PassedChunks a b P (room, limits.body) (response, body) → TookLine b c len size → size ≡ 0 → len ≤ response → TookTrailers c d (response - len)
    → TookBody limits a d used Chunked
took_chunked limits a b c d P used room response body len size whole p l none fits t =
    let taken = p.taken in
    let is = p.used in
    let line = l.len_is in
    let few = t.fits in
    record {
      body = joined p.pieces;
      text = p.text ++ (l.text ++ t.text);
      bytes = consumes_trans a b d p.text (l.text ++ t.text) p.bytes (consumes_trans b c d l.text t.text l.bytes t.bytes);
      reads = λ tail end. record {
        pieces = p.pieces;
        tail = l.text ++ (t.text ++ tail);
        after = t.text ++ tail;
        chunks = subst (λ (u : List ℕ). Rattle.response_reader.specs.Bodies.ReadsChunks p.pieces u (l.text ++ (t.text ++ tail)))
            (ap (λ (u : List ℕ). p.text ++ u) (sym (append_assoc l.text t.text tail)) ∙ sym (append_assoc p.text (l.text ++ t.text) tail))
            (p.reads (l.text ++ (t.text ++ tail)));
        body_is = refl;
        last = subst (λ (n : ℕ). ReadsSize (l.text ++ (t.text ++ tail)) n (t.text ++ tail)) none (l.reads (t.text ++ tail));
        trailers = t.reads tail;
      };
      few = omega arith;
      len = omega (arith, length-append p.text (l.text ++ t.text), length-append l.text t.text);
    }

-- bytes that wait in the buffer were read too
over_read : (a known : Option (List ℕ)) (unread text : List ℕ) → Consumes a (prepend_known unread known) text → Consumes a known (text ++ unread)
over_read None known unread text c = tt
over_read (Some x) None unread text c = absurd c
over_read (Some x) (Some y) unread text c = c ∙ sym (append_assoc text unread y)

pub reusable_by : (limits : Limited) (a b known : Option (List ℕ)) (unread : List ℕ) (head : HeadParts) (framing : Framing) (used : ℕ) (lasts : Bool) (r : Bool)
    → FramesAhead a b head framing used lasts → TookBody limits b (prepend_known unread known) used framing
    → r ≡ (lasts && (not (is_open framing) && (length unread == 0))) → Reusable limits a known r
reusable_by limits a b known unread head framing used lasts r heads took is =
    let text = heads.len in
    let len = took.len in
    record {
      last = heads.last;
      framing = framing;
      parts = record { head = head; body = took.body };
      text = heads.text ++ took.text;
      over = unread;
      bytes = over_read a known unread (heads.text ++ took.text)
          (consumes_trans a b (prepend_known unread known) heads.text took.text heads.bytes took.bytes);
      reads = λ tail end. (
        record {
          framing = framing;
          after = took.text ++ tail;
          heads = record {
            last = heads.last;
            heads = subst (λ (l : List ℕ). Rattle.response_reader.specs.Heads.ReadsHeads l heads.last (took.text ++ tail))
                (sym (append_assoc heads.text took.text tail)) (heads.heads (took.text ++ tail));
            head_is = heads.head_is;
            framed = heads.framed;
          };
          body = took.reads tail end;
          body_len = took.few;
          len = omega (arith, length-append (heads.text ++ took.text) tail, length-append heads.text took.text);
        },
        refl,
        refl,
      );
      value = is ∙ ap (λ (b : Bool). b && (not (is_open framing) && (length unread == 0))) heads.lasts_is;
    }

-- bytes that moved from the wire into an empty buffer are ahead as before
pub ahead_first : (old new : List ℕ) (known left : Option (List ℕ)) (most : ℕ) (more : Bool) → old ≡ []
    → Fills old new known left most more → Consumes known (prepend_known new left) []
ahead_first old new known left most more none f =
    subst (λ (o : Option (List ℕ)). Consumes o (prepend_known new left) []) (nothing_unread old known none) (fills_ahead old new known left most more f)

-- and so it is what was read of them
pub reusable_first : (limits : Limited) (a b c : Option (List ℕ)) (r : Bool) → Consumes a b [] → Reusable limits b c r → Reusable limits a c r
reusable_first limits a b c r same x = record {
  last = x.last;
  framing = x.framing;
  parts = x.parts;
  text = x.text;
  over = x.over;
  bytes = consumes_trans a b c [] (x.text ++ x.over) same x.bytes;
  reads = x.reads;
  value = x.value;
}

pub told_first : (a b : Option (List ℕ)) (P : List ℕ → Type 0) → Consumes a b [] → OfBytes b P → OfBytes a P
told_first a b P same told = told_before a b [] P P same (λ tail p. p) told

-- if the first read gave nothing, there was nothing
pub ends_first : (old new : List ℕ) (known left : Option (List ℕ)) (most : ℕ) (more : Bool) → IsFalse more → Fills old new known left most more → IsAtEnd known
ends_first old new known left most more ended f = at_end known left f.got f.bytes (f.none ended) (f.end ended)
  where
    at_end : (known left : Option (List ℕ)) (got : List ℕ) → Consumes known left got → got ≡ [] → IsAtEnd left → IsAtEnd known
    at_end None left got c none end = tt
    at_end (Some x) None got c none end = absurd c
    at_end (Some x) (Some y) got c none end = c ∙ ap (λ (l : List ℕ). l ++ y) none ∙ end

pub none_counted : (n i : ℕ) → i ≡ 0 → n ≡ counted n i
none_counted n i zero = omega arith

-- reads that gave up raised the count
pub risen_of : (n : ℕ) (a b : Tally) (f : ReadFault) → a.failed ≡ counted n a.interrupted → FaultCounts a b f → f ≡ Device → HasRisen n b.failed
risen_of n a b f all counts device =
    let gave : GivesUp a b = subst (λ (e : ReadFault). FaultCounts a b e) device counts in gave.risen n all

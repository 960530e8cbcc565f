-- Each field says its part.
use Rattle.std.proofs.Common.{◌≡◌, ◌<◌, ◌≤◌, ◌∙◌, ℕ, [], Option, Some, Vec, Global, ap, get_or, subst, sym, arith, length, string_bytes, option_map}
use Rattle.std.specs.Prelude.{IsUtf8}
use Rattle.address.specs.Address.{IsAddress}
use Rattle.mirror_index.specs.Entries.{Entry, entry_fields}
use Rattle.mirror_index.proofs.EntryLaws.{field_at, same_entry}
use Rattle.mirror_index.proofs.line.entry_in.Goals as goal

pub returns : goal.returns
returns c e is same =
    let fields = c.args.fields.now in
    let long : 8 ≤ length fields = c.in-len8.len_at_least in
    let at : (k : ℕ) (v : Vec ℕ Global) → k < 8 → v ≡ get_or fields k v → v.items ≡ get_or (entry_fields e) k [] =
    λ k v below here. field_at fields (entry_fields e) k v same (omega arith) here in
    let address : c.as_slice.result.now ≡ e.address = c.as_slice.ensures.value ∙ at 0 c.address-item.result (omega arith) c.address-item.is in
    let name : c.as_slice-2.result.now ≡ e.name = c.as_slice-2.ensures.value ∙ at 1 c.name-item.result (omega arith) c.name-item.is in
    let status = c.as_slice-3.ensures.value ∙ at 4 c.status-item.result (omega arith) c.status-item.is in
    let content_type = c.as_slice-4.ensures.value ∙ at 5 c.content_type-item.result (omega arith) c.content_type-item.is in
    let etag = c.as_slice-5.ensures.value ∙ at 6 c.etag-item.result (omega arith) c.etag-item.is in
    let last_modified = c.as_slice-6.ensures.value ∙ at 7 c.last_modified-item.result (omega arith) c.last_modified-item.is in
    let size = c.as_slice-7.ensures.value ∙ at 2 c.size-item.result (omega arith) c.size-item.is in
    let mark = c.as_slice-8.ensures.value ∙ at 3 c.mark-item.result (omega arith) c.mark-item.is in
    let read_address = c.in_ok-address.ensures (subst IsAddress (sym address) is.parts.address) in
    let first : c.in-Some.address ≡ e.address = cc (read_address, c.in-Some.is, address) in
    let read_name = c.in_ok-name.ensures (subst IsUtf8 (sym name) is.name.utf8) in
    let some_name = ap (λ (o : Option _). option_map string_bytes o) c.in-Some-2.is in
    let second : string_bytes c.in-Some-2.name ≡ e.name = cc (read_name, some_name, name) in
    ap (λ (x : Entry). Some x)
    (c.new.ensures ∙ same_entry e c.in-Some.address (string_bytes c.in-Some-2.name) c.number_in-size.result c.mark_in-mark.result c.in_ok-head.head first second
    (c.number_in-size.ensures e.size is.parts.size size) (c.mark_in-mark.ensures e.mark is.parts.mark mark)
    (c.in_ok-head.ensures e.head is.parts.status status content_type etag last_modified))

-- Names that leave those of bodies as they came free: no directory of a path ends so, and each name has those in front of it.
use Rattle.std.proofs.Common.{◌≡◌, ◌≢◌, ℕ, ◌<◌, ◌≤◌, Bool, true, List, [], ◌∷◌, ◌++◌, length, get_or, All, Contains, sym, refl, ap, ◌∙◌, subst, arith}
use Rattle.std.proofs.lemmas.List.{length-append, get_or_append_left, get_or_push}
use Rattle.std.proofs.lemmas.List.Elements.{All-nil, All-cons, All-head, All-append}
use Rattle.std.specs.List.{slice_split, join_with_byte}
use Rattle.local_names.specs.declared.plain_name.TheConstants.{ORIGINAL}
use Rattle.local_names.specs.declared.rules.NameRules.{NameRules}
use Rattle.local_names.specs.PlainNames.{slash, is_slash}
use Rattle.local_names.specs.Names.{IsDirectory, IsNamingBy}
use Rattle.local_names.specs.LocalNames.{LeaveOriginals}
use Rattle.local_names.proofs.UnitLaws.{IsSegmentByte, IsSegment, all_front, all_back}
use Rattle.local_names.proofs.SegmentLaws.{segment_bytes_from, split_joined, split_some, split_both}
use Rattle.local_names.proofs.OriginalLaws.{EndsOtherwise, no_names}
use Rattle.local_names.proofs.PlainLaws.{head_count, IsParted, onto_last}

parts_of : (fronts : List (List ℕ)) (last : List ℕ) → All (All IsSegmentByte) (fronts ++ last ∷ []) → slice_split is_slash (join_with_byte slash (fronts ++ last ∷ [])) ≡ fronts ++ last ∷ []
parts_of [] last all = split_joined last [] all
parts_of (first ∷ mids) last all = split_joined first (mids ++ last ∷ []) all

bytes_of : (segments : List (List ℕ)) → All IsSegment segments → All (All IsSegmentByte) segments
bytes_of segments all = λ k d below. (all k d below).bytes

-- a name with the end of such a body isn't that of a directory: it would be one of the path's, as the name has those in front
no_clash : (rules : NameRules) (name other rest : List ℕ) → rules.has_originals ≡ true → IsParted rules name → IsParted rules other → other ≢ (name ++ ORIGINAL.now) ++ slash ∷ rest
no_clash rules name other rest on one two is =
    let segment = one.last ++ ORIGINAL.now in
    let fronts = one.fronts in
    let i = length fronts in
    let bytes = bytes_of (fronts ++ one.last ∷ []) one.all in
    let last_bytes = All-head (All IsSegmentByte) one.last [] (all_back (All IsSegmentByte) fronts (one.last ∷ []) bytes) in
    let segment_bytes = All-append IsSegmentByte one.last ORIGINAL.now last_bytes (segment_bytes_from ORIGINAL.now refl) in
    let all_bytes = All-append (All IsSegmentByte) fronts (segment ∷ []) (all_front (All IsSegmentByte) fronts (one.last ∷ []) bytes) (All-cons (All IsSegmentByte) segment [] segment_bytes (All-nil (All IsSegmentByte))) in
    let path = join_with_byte slash (fronts ++ segment ∷ []) in
    let own : name ++ ORIGINAL.now ≡ path = ap (λ n. n ++ ORIGINAL.now) one.is ∙ onto_last fronts one.last ORIGINAL.now in
    let parts : two.fronts ++ two.last ∷ [] ≡ (fronts ++ segment ∷ []) ++ slice_split is_slash rest =
    sym (parts_of two.fronts two.last (bytes_of (two.fronts ++ two.last ∷ []) two.all))
    ∙ ap (slice_split is_slash) (sym two.is ∙ is ∙ ap (λ d. d ++ slash ∷ rest) own)
    ∙ split_both path rest
    ∙ ap (λ ps. ps ++ slice_split is_slash rest) (parts_of fronts segment all_bytes) in
    let same = ap length parts in
    let some = split_some rest in
    let long = length-append two.fronts (two.last ∷ []) in
    let front_long = length-append fronts (segment ∷ []) in
    let all_long = length-append (fronts ++ segment ∷ []) (slice_split is_slash rest) in
    let inside : i < length two.fronts = omega (arith, same, some, long, front_long, all_long) in
    let at : get_or two.fronts i [] ≡ segment =
    sym (get_or_append_left two.fronts (two.last ∷ []) [] i inside)
    ∙ ap (λ ps. get_or ps i []) parts
    ∙ get_or_append_left (fronts ++ segment ∷ []) (slice_split is_slash rest) [] i (omega (arith, front_long))
    ∙ get_or_push fronts segment [] i refl in
    (two.leaves on).ends i (one.leaves on).heads inside one.last at

-- what all names have, one has that is among them
held : (P : List ℕ → Type 0) (names : List (List ℕ)) (name : List ℕ) → All P names → Contains names name → P name
held P names name all (i, below, is) = subst P is (all i name below)

pub names_leave : (rules : NameRules) (has : Bool) (plain names : List (List ℕ)) → IsNamingBy has plain names → rules.has_originals ≡ true → All EndsOtherwise plain → All (IsParted rules) names → LeaveOriginals names
names_leave rules has plain names naming on ends all = record {
  no_name = no_names has plain names naming ends;
  no_directory = λ name own directory. no_clash rules name directory.0 directory.2.0 on (held (IsParted rules) names name all own) (held (IsParted rules) names directory.0 all directory.1) directory.2.1;
}

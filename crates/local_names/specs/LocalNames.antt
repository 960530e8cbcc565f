-- What keeps a name inside its folder, and a segment within what disks take.
use Rattle.std.specs.Prelude.{◌≡◌, ◌≢◌, ℕ, Bool, false, ◌≤◌, List, [], ◌++◌, length, codes, All, Contains, IsUtf8}
use Rattle.std.specs.List.{slice_split}
use Rattle.local_names.specs.PlainNames.{is_slash, is_control, is_part}
use Rattle.local_names.specs.Names.{numbered_by, IsDirectory}
use Rattle.local_names.specs.declared.plain_name.TheConstants.{MAX_SEGMENT, ORIGINAL}

-- a segment that names something within its directory
pub record IsInner (segment : List ℕ) : Type 0 where
  pub present : segment ≢ []
  pub not_here : segment ≢ codes "."
  pub not_above : segment ≢ codes ".."

-- no segment is empty, `.` or `..`: the name leads nowhere but below its folder
abbrev pub StaysInside : List ℕ → Type 0
StaysInside name = All IsInner (slice_split is_slash name)

-- the segment has no more bytes than a segment may have
abbrev pub IsShort : List ℕ → Type 0
IsShort segment = length segment ≤ MAX_SEGMENT

-- no segment is longer than it may be, the added number not counted
pub record HasShortSegmentsBy (has_endings : Bool) (name : List ℕ) : Type 0 where
  pub plain : List ℕ
  pub number : ℕ
  pub is : name ≡ numbered_by has_endings plain number
  pub short : All IsShort (slice_split is_slash plain)

-- the same of names without endings
abbrev pub HasShortSegments : List ℕ → Type 0
HasShortSegments name = HasShortSegmentsBy false name

-- no control byte: no NUL and no line feed
abbrev pub IsUncontrolled : ℕ → Type 0
IsUncontrolled byte = is_control byte ≡ false

-- characters in UTF-8, none of them a control byte
pub record IsText (name : List ℕ) : Type 0 where
  pub utf8 : IsUtf8 name
  pub bytes : All IsUncontrolled name

-- the name isn't that of a part
abbrev pub IsNoPart : List ℕ → Type 0
IsNoPart name = is_part name ≡ false

-- the name of each body as it came, which may be beside its file, is free: whatever a name is, that with this after it is none of
-- these, and if it is one of these, no directory of one either
pub record LeaveOriginals (names : List (List ℕ)) : Type 0 where
  pub no_name : (name : List ℕ) → ¬ Contains names (name ++ ORIGINAL.now)
  pub no_directory : (name : List ℕ) → Contains names name → ¬ IsDirectory names (name ++ ORIGINAL.now)

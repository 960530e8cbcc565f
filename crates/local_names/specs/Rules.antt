-- The usual rules of names.
use Rattle.std.specs.Prelude.{true, false, None}
use Rattle.local_names.specs.declared.rules.CharRules.{CharRules}
use Rattle.local_names.specs.declared.rules.LetterCase.TheVariants.{AsIs}
use Rattle.local_names.specs.declared.rules.NameRules.{NameRules}

-- each character is kept as it is
abbrev pub usual_chars : CharRules
usual_chars = record { is_windows = false; is_ascii = false; letter_case = AsIs }

-- host, path and query are the name, and it is `index.html` if the path ends in `/`
abbrev pub usual_rules : NameRules
usual_rules = record {
  has_directories = true;
  has_protocol = false;
  has_host = true;
  cut_dirs = 0;
  default_page = None;
  chars = usual_chars;
  has_originals = false;
}

-- What a class of bytes is (GNU Wget manual, section Types of Files).
use Rattle.std.specs.Prelude.{Bool, List}
use Rattle.follow_filters.specs.declared.class.Range.{Range}

-- a class: whether it takes the bytes that no range names, in place of those that one names
pub record ClassValue : Type 0 where
  pub is_negated : Bool
  pub ranges : List Range

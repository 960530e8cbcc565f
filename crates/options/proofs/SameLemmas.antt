-- Words that say the same of each option last order the same.
use Rattle.std.proofs.Common.{◌≡◌, ◌∙◌, ◌++◌, ◌∷◌, [], List, None, Some, drop, refl, ap, codes, sym, take}
use Rattle.std.specs.Prelude.{All, Err}
use Rattle.std.specs.List.{flat_map}
use Rattle.std.proofs.lemmas.List.Elements.{All-head, All-tail}
use Rattle.clap.specs.Walk.{Text}
use Rattle.options.specs.declared.said.Saying.{Saying}
use Rattle.options.specs.declared.said.Saying.TheVariants as saying
use Rattle.options.specs.declared.table.Row.{Row}
use Rattle.options.specs.Asked.{refusal_of}
use Rattle.options.specs.Order.{OrdersBySayings, guarded, logged, order_said, order_of_written, with_others}
use Rattle.options.specs.Said.{sayings}
use Rattle.options.specs.Table.{table}
use Rattle.options.specs.Written.{first_start, first_unread, if_any, others_in, row_words, starts_in, value_of, written}

same_rows : (one other : List (Saying Text)) (rows : List (Row Text)) → All (λ row. value_of one row ≡ value_of other row) rows
    → flat_map (λ row. row_words row (value_of one row)) rows ≡ flat_map (λ row. row_words row (value_of other row)) rows
same_rows one other [] same = refl
same_rows one other (row ∷ rows) same =
    ap (λ value. row_words row value ++ flat_map (λ row. row_words row (value_of one row)) rows) (All-head (λ row. value_of one row ≡ value_of other row) row rows same)
    ∙ ap (λ rest. row_words row (value_of other row) ++ rest) (same_rows one other rows (All-tail (λ row. value_of one row ≡ value_of other row) row rows same))

-- the first start is the first of the starts
first_start-is : (said : List (Saying Text)) → if_any (first_start said) ≡ take 1 (starts_in said)
first_start-is [] = refl
first_start-is (saying.Starts word ∷ said) = refl
first_start-is (saying.Says name value ∷ said) = first_start-is said
first_start-is (saying.Unread word ∷ said) = first_start-is said

same_first : (one other : List (Saying Text)) → starts_in one ≡ starts_in other → if_any (first_start one) ≡ if_any (first_start other)
same_first one other starts = first_start-is one ∙ ap (take 1) starts ∙ sym (first_start-is other)

same_written : (one other : List (Saying Text)) → All (λ row. value_of one row ≡ value_of other row) table → starts_in one ≡ starts_in other → written one ≡ written other
unfolding written
same_written one other options starts =
    ap (λ rows. rows ++ codes "--" ∷ if_any (first_start one)) (same_rows one other table options)
    ∙ ap (λ rest. flat_map (λ row. row_words row (value_of other row)) table ++ codes "--" ∷ rest) (same_first one other starts)

pub order_read : (said : List (Saying Text)) → first_unread said ≡ None → order_said said ≡ logged (starts_in said) (guarded (with_others (others_in said) (order_of_written (written said))))
unfolding order_said
order_read said read = rw read refl

pub order_unread : (said : List (Saying Text)) (word : Text) → first_unread said ≡ Some word → order_said said ≡ Err (refusal_of word)
unfolding order_said
order_unread said word unread = rw unread refl

pub orders_by_sayings : (words : List Text) → OrdersBySayings words
orders_by_sayings words others same =
    order_read (sayings words) same.read
    ∙ ap (λ more. logged more (guarded (with_others (drop 1 more) (order_of_written (written (sayings words)))))) same.starts
    ∙ ap (λ out. logged (starts_in (sayings others)) (guarded (with_others (others_in (sayings others)) (order_of_written out)))) (same_written (sayings words) (sayings others) same.options same.starts)
    ∙ sym (order_read (sayings others) same.others_read)

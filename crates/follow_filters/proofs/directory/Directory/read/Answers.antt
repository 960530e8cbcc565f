use Rattle.std.proofs.Common.{◌≡◌, ◌∙◌, true, false, is_some, refl, sym, ap, subst, inl}
use Rattle.std.proofs.lemmas.Result.{err_from_is_err_and}
use Rattle.follow_filters.specs.Elements.{IsFaultOf}
use Rattle.follow_filters.specs.Directories.{read_names, read_directory, rooted}
use Rattle.follow_filters.proofs.DirectoryLemmas.{directory_some, directory_read, directory_fault, none_of}
use Rattle.follow_filters.proofs.directory.Directory.read.Goals as goal

pub returns-then-not-are_spelled : goal.returns-then-not-are_spelled
returns-then-not-are_spelled c =
    let none = none_of (read_directory c.args.text.now) (directory_some c.args.text.now ∙ ap (λ t. is_some (read_names t)) (sym c.without_closing_slashes-bare.ensures) ∙ sym c.are_spelled.ensures ∙ c.if-not-are_spelled.true) in
    record { reads = inl (refl, none); refuses = λ _. refl }

pub returns-in_err-text-clause-refuses : goal.returns-in_err-text-clause-refuses
returns-in_err-text-clause-refuses c =
    let some : is_some (read_directory c.args.text.now) ≡ true = directory_some c.args.text.now ∙ ap (λ t. is_some (read_names t)) (sym c.without_closing_slashes-bare.ensures) ∙ sym c.are_spelled.ensures ∙ c.if-not-are_spelled.false in
    λ none. let never : is_some (read_directory c.args.text.now) ≡ false = ap is_some none in cc

pub returns-in_err-names : goal.returns-in_err-names
returns-in_err-names c =
    let p = err_from_is_err_and c.from_residual-in_err-names.result c.from_residual-in_err-names.ensures.1 in
    let some : is_some (read_directory c.args.text.now) ≡ true = directory_some c.args.text.now ∙ ap (λ t. is_some (read_names t)) (sym c.without_closing_slashes-bare.ensures) ∙ sym c.are_spelled.ensures ∙ c.if-not-are_spelled.false in
    let fault : IsFaultOf (read_names c.in_ok-text.text.bytes.items) c.in_err-names.field-0.0 = subst (λ t. IsFaultOf (read_names t) c.in_err-names.field-0.0) c.as_str.ensures.value c.in_err-names.ensures in
    record {
      reads = rw (p.1, p.2) (directory_fault c.args.text.now c.in_ok-text.text.bytes.items c.in_err-names.field-0.0 (c.in_ok-text.ensures ∙ ap rooted c.without_closing_slashes-bare.ensures) fault);
      refuses = λ none. let never : is_some (read_directory c.args.text.now) ≡ false = ap is_some none in cc;
    }

pub returns : goal.returns
returns c =
    let read = directory_read c.args.text.now c.in_ok-text.text.bytes.items c.in_ok-names.names.items (c.in_ok-text.ensures ∙ ap rooted c.without_closing_slashes-bare.ensures) (ap read_names (sym c.as_str.ensures.value) ∙ c.in_ok-names.ensures) in
    record { reads = read; refuses = λ none. cc }

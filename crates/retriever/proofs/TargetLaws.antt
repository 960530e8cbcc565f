-- Where the output goes, by what the words order or why they are refused.
use Rattle.std.proofs.Common.{◌≡◌, ◌≢◌, ◌⊎◌, ◌∙◌, ℕ, inl, inr, List, None, option_map, sym, ap}
use Rattle.std.specs.Prelude.{Result, Ok, Err, IfOk, string_bytes}
use Rattle.std.specs.declared.alloc.AllocError.{AllocError}
use Rattle.options.specs.Asked.{without_kind}
use Rattle.options.specs.Listed.{are_quiet}
use Rattle.options.specs.Order.{log_by, order_of, ordered_by, seeks_in}
use Rattle.options.specs.Sought.{IsUnsaid}
use Rattle.options.specs.declared.fault.LineFault.{LineFault}
use Rattle.options.specs.declared.fault.LineFault.TheVariants as fault
use Rattle.options.specs.declared.order.Order.{Order}
use Rattle.retriever.specs.OutputTargets.{GoesTo, IsRejectedPath, AreTargets, rejected_by, targets_by}
use Rattle.retriever.specs.declared.output_targets.OutputTargets.{OutputTargets}

-- as ordered
pub targets_ordered : (words : List (List ℕ)) (order : Order) (r : Result OutputTargets AllocError) → order_of words ≡ Ok (ordered_by order)
    → IfOk r (λ t. GoesTo (t.is_quiet, option_map log_by t.log) (order.quiet, option_map log_by order.log)) → IfOk r (λ t. AreTargets words (t.is_quiet, option_map log_by t.log))
targets_ordered words order (Ok t) says is = inl (is ∙ ap (targets_by words) (sym says))
targets_ordered words order (Err short) says is = tt

pub path_ordered : (words : List (List ℕ)) (order : Order) (r : Result OutputTargets AllocError) → order_of words ≡ Ok (ordered_by order)
    → IfOk r (λ t. option_map string_bytes t.rejected ≡ order.rejected_log) → IfOk r (λ t. IsRejectedPath words (option_map string_bytes t.rejected))
path_ordered words order (Ok t) says is = inl (is ∙ ap rejected_by (sym says))
path_ordered words order (Err short) says is = tt

-- as that of refused words
pub targets_refused : (words : List (List ℕ)) (wrong : LineFault) (r : Result OutputTargets AllocError) → (order_of words ≡ Err (without_kind wrong)) ⊎ IsUnsaid (seeks_in words) wrong → IfOk r (λ t. wrong ≢ fault.Memory)
    → IfOk r (λ t. GoesTo (t.is_quiet, option_map log_by t.log) (are_quiet words, None)) → IfOk r (λ t. AreTargets words (t.is_quiet, option_map log_by t.log))
targets_refused words wrong (Ok t) (inl refused) other is = inl (is ∙ ap (targets_by words) (sym refused))
targets_refused words wrong (Ok t) (inr (inl memory)) other is = absurd (other memory)
targets_refused words wrong (Ok t) (inr (inr (large, seeks))) other is = inr (seeks, is)
targets_refused words wrong (Err short) why other is = tt

pub path_refused : (words : List (List ℕ)) (wrong : LineFault) (r : Result OutputTargets AllocError) → (order_of words ≡ Err (without_kind wrong)) ⊎ IsUnsaid (seeks_in words) wrong → IfOk r (λ t. wrong ≢ fault.Memory)
    → IfOk r (λ t. option_map string_bytes t.rejected ≡ None) → IfOk r (λ t. IsRejectedPath words (option_map string_bytes t.rejected))
path_refused words wrong (Ok t) (inl refused) other is = inl (is ∙ ap rejected_by (sym refused))
path_refused words wrong (Ok t) (inr (inl memory)) other is = absurd (other memory)
path_refused words wrong (Ok t) (inr (inr (large, seeks))) other is = inr (seeks, is)
path_refused words wrong (Err short) why other is = tt

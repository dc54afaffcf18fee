use Rattle.std.proofs.Common.{◌∙◌, List, ℕ, sym, subst, arith}
use Rattle.std.specs.Net.Grammar.{IsNumber}
use Rattle.ospf_script.specs.Values.{IsAddress, IsPrefix}
use Rattle.ospf_script.proofs.Plain.{finds_none}
use Rattle.ospf_script.proofs.Prefixes.{not_masked, parts_of, prefix_is_text}
use Rattle.ospf_script.proofs.values.prefix_of.Goals as goal

pub returns-in_err-text_of : goal.returns-in_err-text_of
returns-in_err-text_of c =
    let no_text = rw c.in_err-text_of.was at c.text_of.ensures.none in
    finds_none _ _ c.from_residual.ensures (λ prefix is. no_text (prefix_is_text c.args.word.now prefix is))

pub returns-in_err-dotted : goal.returns-in_err-dotted
returns-in_err-dotted c =
    let text = rw c.in_ok-text_of.was at c.text_of.ensures.some in
    finds_none _ _ c.from_residual-in_err-dotted.ensures (λ prefix is.
    let p : IsPrefix c.in_ok-text_of.field-0.now prefix = rw text is in
    let parts = parts_of _ _ prefix p c.split_once.ensures.cases in
    rw c.in_err-dotted.was at parts)

pub returns-in_err-address : goal.returns-in_err-address
returns-in_err-address c =
    let text = rw c.in_ok-text_of.was at c.text_of.ensures.some in
    let none = rw c.in_err-address.was at c.address_of.ensures in
    finds_none _ _ c.from_residual-in_err-address.ensures (λ prefix is.
    let p : IsPrefix c.in_ok-text_of.field-0.now prefix = rw text is in
    let parts = parts_of _ _ prefix p c.split_once.ensures.cases in
    let here = rw c.in_ok-dotted.was at parts in
    none prefix.address (subst (λ (t : List ℕ). IsAddress t prefix.address) (sym (c.as_bytes.ensures.value ∙ here.0)) p.address_spelled))

pub returns-in_err-length : goal.returns-in_err-length
returns-in_err-length c =
    let text = rw c.in_ok-text_of.was at c.text_of.ensures.some in
    let none = rw c.in_err-length.was at c.number_up_to.ensures in
    finds_none _ _ c.from_residual-in_err-length.ensures (λ prefix is.
    let p : IsPrefix c.in_ok-text_of.field-0.now prefix = rw text is in
    let parts = parts_of _ _ prefix p c.split_once.ensures.cases in
    let here = rw c.in_ok-dotted.was at parts in
    none prefix.length (subst (λ (t : List ℕ). IsNumber 10 t prefix.length) (sym (c.as_bytes-2.ensures.value ∙ here.1)) p.length_spelled, omega (arith, p.short)))

pub returns-then-address-mask_of : goal.returns-then-address-mask_of
returns-then-address-mask_of c prefix is =
    let text = rw c.in_ok-text_of.was at c.text_of.ensures.some in
    let address_is = rw c.in_ok-address.was at c.address_of.ensures in
    let length_is = rw c.in_ok-length.was at c.number_up_to.ensures in
    let p : IsPrefix c.in_ok-text_of.field-0.now prefix = rw text is in
    let parts = parts_of _ _ prefix p c.split_once.ensures.cases in
    let here = rw c.in_ok-dotted.was at parts in
    not_masked _ _ _ prefix p c.in_ok-address.address c.in_ok-length.field-0 c.mask_of.result (c.as_bytes.ensures.value ∙ here.0) (c.as_bytes-2.ensures.value ∙ here.1)
    address_is length_is.0 c.mask_of.ensures c.if-address-mask_of.true

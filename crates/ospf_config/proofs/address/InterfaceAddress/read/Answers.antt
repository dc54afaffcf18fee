use Rattle.std.proofs.Common.{◌≡◌, sym, ◌∙◌, subst, arith}
use Rattle.std.proofs.lemmas.Bool.{iff_false}
use Rattle.std.proofs.lemmas.Fmt.{decimal_injective}
use Rattle.std.proofs.lemmas.Str.Pattern.{split_parts}
use Rattle.ospf_config.specs.Host.{IsHostAddress}
use Rattle.ospf_base.proofs.Dotted.{dotted_one}
use Rattle.ospf_config.proofs.AddressTexts.{parts_of, if_none}
use Rattle.ospf_config.proofs.address.InterfaceAddress.read.Goals as goal

pub returns-in_err-dotted-clause-none : goal.returns-in_err-dotted-clause-none
returns-in_err-dotted-clause-none c =
    if_none c.from_residual.result _ (λ a is.
    let parts = parts_of c.args.text.now _ a.address.0 a.length is.prefix c.split_once.ensures.cases in
    rw c.in_err-dotted.was at parts)

pub returns-in_err-length-clause-none : goal.returns-in_err-length-clause-none
returns-in_err-length-clause-none c =
    if_none c.from_residual-in_err-length.result _ (λ a is.
    let parts = parts_of c.args.text.now _ a.address.0 a.length is.prefix c.split_once.ensures.cases in
    let here = rw c.in_ok-dotted.was at parts in
    let none = rw c.in_err-length.was at c.length_of.ensures.none in
    none a.length a.host.long a.host.short here.1)

pub returns-in_err-number-clause-none : goal.returns-in_err-number-clause-none
returns-in_err-number-clause-none c =
    if_none c.from_residual-in_err-number.result _ (λ a is.
    let parts = parts_of c.args.text.now _ a.address.0 a.length is.prefix c.split_once.ensures.cases in
    let here = rw c.in_ok-dotted.was at parts in
    let none = rw c.in_err-number.was at c.dotted_number.ensures.none in
    none a.address.0 (rw here.0 is.prefix.address_spelled))

pub returns-then-is_host-clause-some : goal.returns-then-is_host-clause-some
returns-then-is_host-clause-some c =
    let parts = split_parts 47 c.args.text.now _ c.split_once.ensures.cases (omega arith) in
    let here = rw c.in_ok-dotted.was at parts in
    let length_is = rw c.in_ok-length.was at c.length_of.ensures.some in
    let number_is = rw c.in_ok-number.was at c.dotted_number.ensures.some in
    record {
      prefix = record { dotted = c.in_ok-dotted.dotted.now; address_spelled = number_is.0; spelled = rw (← length_is.0) here.0 };
      allowed = c.is_allowed.ensures.0 c.if-not-is_allowed.false;
    }

pub returns-then-not-is_allowed-clause-none : goal.returns-then-not-is_allowed-clause-none
returns-then-not-is_allowed-clause-none c a is =
    let parts = parts_of c.args.text.now _ a.address.0 a.length is.prefix c.split_once.ensures.cases in
    let here = rw c.in_ok-dotted.was at parts in
    let length_is = rw c.in_ok-length.was at c.length_of.ensures.some in
    let same_length : a.length ≡ c.in_ok-length.length =
    decimal_injective a.length c.in_ok-length.length (omega (arith, a.host.short)) (omega (arith, length_is)) (sym here.1 ∙ length_is.0) in
    iff_false c.is_allowed.ensures c.if-not-is_allowed.true (λ long. is.allowed (same_length ∙ long))

pub returns-else-is_host-clause-none : goal.returns-else-is_host-clause-none
returns-else-is_host-clause-none c a is =
    let parts = parts_of c.args.text.now _ a.address.0 a.length is.prefix c.split_once.ensures.cases in
    let here = rw c.in_ok-dotted.was at parts in
    let length_is = rw c.in_ok-length.was at c.length_of.ensures.some in
    let number_is = rw c.in_ok-number.was at c.dotted_number.ensures.some in
    let spelled = subst (λ text. Rattle.ospf_base.specs.Text.IsDottedNumber text a.address.0) (sym here.0) is.prefix.address_spelled in
    let same_number : a.address.0 ≡ c.in_ok-number.number =
    dotted_one c.in_ok-dotted.dotted.now a.address.0 c.in_ok-number.number (omega (arith, a.host.octet_high)) number_is.1 spelled number_is.0 in
    let same_length : a.length ≡ c.in_ok-length.length =
    decimal_injective a.length c.in_ok-length.length (omega (arith, a.host.short)) (omega (arith, length_is)) (sym here.1 ∙ length_is.0) in
    let host : IsHostAddress c.in_ok-number.number c.in_ok-length.length = rw (← same_number, ← same_length) a.host in
    iff_false c.is_host.ensures c.if-is_host.false host

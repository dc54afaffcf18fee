use Rattle.std.proofs.Common.{◌≡◌, ◌+◌, ◌-◌, ◌%◌, ◌^◌, [], ◌∷◌, length, Some, slice_get, ap, ◌∙◌, subst, arith, length-append}
use Rattle.ospf_fib.specs.Versions.{found_of}
use Rattle.ospf_fib.proofs.Lists.{ends_with}
use Rattle.ospf_fib.proofs.answer.answer_of_shown.Goals as goal

pub returns : goal.returns
returns c =
    let shown = c.args.shown.now in
    let tables = shown.known.tables in
    let last : slice_get tables (length tables - 1) ≡ Some shown.table = subst (λ b. found_of b shown.table tables ≡ Some shown.table) c.requires shown.ends in
    let e = ends_with tables shown.table last in
    let long : length tables ≡ length e.0 + 1 = ap length e.1 ∙ omega (arith, length-append e.0 (shown.table ∷ [])) in
    let version : (c.count-version.result + 18446744073709551615) % 2 ^ 64 ≡ length e.0 % 2 ^ 64 = omega (arith, long, c.count-version.ensures) in
    record { version = _; table = shown.table; last = record { before = e.0; ends = e.1; version_is = version }; answers = c.answer_of.ensures }

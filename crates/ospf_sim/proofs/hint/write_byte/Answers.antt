use Rattle.std.proofs.Common.{◌≡◌, ◌<◌, ◌≤◌, ◌⊎◌, ◌++◌, ℕ, codes, arith, inl, inr}
use Rattle.std.proofs.lemmas.Bool.Decides.{nat_tests}
use Rattle.ospf_sim.specs.Hints.{byte_text}
use Rattle.ospf_script.specs.Texts.{hexadecimal}
use Rattle.ospf_script.proofs.Zeros.{hexadecimal_is}
use Rattle.ospf_sim.proofs.hint.write_byte.Goals as goal

-- a byte that is not printed is told by its number
not_printed : (byte : ℕ) → (byte < 33) ⊎ ((33 ≤ byte) × (126 < byte)) → byte_text byte ≡ codes "\\x" ++ hexadecimal 2 byte
not_printed byte h = elim h [ inl low ↦ grind (arith, nat_tests) | inr high ↦ grind (arith, nat_tests) ]

pub returns-then-byte-gt126 : goal.returns-then-byte-gt126
returns-then-byte-gt126 g c =
    let laid = rw c.laid_out.ensures at c.write.ensures.writes in
    let digits_are = rw c.in_radix.ensures at laid in
    let all = rw (hexadecimal_is 2 c.args.byte) at digits_are in
    rw (not_printed c.args.byte c.if-byte-gt126.either) all

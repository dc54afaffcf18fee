-- The ones of a mask are as many as its prefix is long.
use Rattle.std.proofs.Common.{◌≡◌, ◌≢◌, ℕ, zero, suc, ◌+◌, ◌-◌, ◌*◌, ◌^◌, ◌≤◌, ◌++◌, sym, ap, ◌∙◌, arith}
use Rattle.std.specs.Prelude.{codes, count_ones, decimal}
use Rattle.std.proofs.Math.Nat.{pow-suc}
use Rattle.std.proofs.lemmas.Nat.{ones_cat, ones_le_self, pow_pos, pow-add, zero_from_ones}
use Rattle.ospf_base.specs.Masks.{mask_of}
use Rattle.ospf_base.specs.Prefixes.{IsPrefixOf}
use Rattle.ospf_base.specs.Text.{number_text, prefix_text}
use Rattle.ospf_base.specs.declared.prefix.Prefix.{Prefix}
use Rattle.ospf_inspect.specs.AreaDrawing.Graph.{prefix_under}

ones_0 : count_ones 0 ≡ 0
ones_0 = omega (arith, ones_le_self 0)

ones_1 : count_ones 1 ≡ 1
ones_1 =
    let some : count_ones 1 ≢ 0 = λ e. let none = zero_from_ones 1 e in omega arith in
    omega (arith, ones_le_self 1, some)

-- the number below a power of 2 has ones alone
ones_below : (n m : ℕ) → m + 1 ≡ 2 ^ n → count_ones m ≡ n
ones_below zero m e = let none : m ≡ 0 = omega arith in ap count_ones none ∙ ones_0
ones_below (suc n) m e =
    let double = pow-suc 2 n in
    let some = pow_pos n in
    let low = 2 ^ n - 1 in
    let whole : low + 1 ≡ 2 ^ n = omega arith in
    let split : m ≡ 1 * 2 ^ n + low = omega (arith, double) in
    omega (arith, ap count_ones split, ones_cat n 1 low (omega arith), ones_1, ones_below n low whole)

pub ones_of_mask : (n : ℕ) → n ≤ 32 → count_ones (mask_of n) ≡ n
ones_of_mask n le =
    let high = 2 ^ n - 1 in
    let some = pow_pos n in
    let whole : high + 1 ≡ 2 ^ n = omega arith in
    let product : 2 ^ 32 ≡ 2 ^ n * 2 ^ (32 - n) = let there : 32 ≡ n + (32 - n) = omega arith in ap (λ k. 2 ^ k) there ∙ pow-add 2 n (32 - n) in
    let spread : 2 ^ n * 2 ^ (32 - n) ≡ high * 2 ^ (32 - n) + 2 ^ (32 - n) = ap (λ k. k * 2 ^ (32 - n)) (sym whole) ∙ omega arith in
    let split : mask_of n ≡ high * 2 ^ (32 - n) + 0 = omega (arith, product, spread) in
    omega (arith, ap count_ones split, ones_cat (32 - n) high 0 (pow_pos (32 - n)), ones_0, ones_below n high whole)

pub prefix_is_drawn : (address mask : ℕ) (prefix : Prefix) → IsPrefixOf address mask prefix → prefix_under address mask ≡ prefix_text prefix
prefix_is_drawn address mask prefix is =
    ap (λ a. number_text a ++ codes "/" ++ decimal (count_ones mask)) (sym is.masked)
    ∙ ap (λ n. number_text prefix.address.0 ++ codes "/" ++ decimal n) (ap count_ones is.mask_is ∙ ones_of_mask prefix.length prefix.short)

-- What is due first, as the ring goes round.
use Rattle.std.proofs.Common.{◌≡◌, ◌<◌, ◌≤◌, ◌⊎◌, inl, inr, ℕ, true, List, [], ◌∷◌, refl, sym, ◌∙◌, arith, BTreeSet}
use Rattle.std.specs.BTreeSet as sorted
use Rattle.std.specs.declared.ops.Bound.TheVariants.{Included, Unbounded}
use Rattle.ospf_lsdb.specs.declared.moments.AgeDue.{AgeDue}
use Rattle.ospf_lsdb.specs.Moments.{ahead, due_cmp, has_due, IsIdleUntil}
use Rattle.ospf_lsdb.proofs.MomentLemmas.{has-contains}
use Rattle.ospf_lsdb.proofs.OrderLemmas.{first_key, first_due_le, moment_le}

-- the moments behind the clock come in their order
later : (clock f m : ℕ) → clock ≤ f → f ≤ m → m < 65536 → ahead clock f ≤ ahead clock m
unfolding ahead
later clock f m from less within = omega arith

-- and so do those in front of it
earlier : (clock f m : ℕ) → clock < 65536 → f ≤ m → m < clock → ahead clock f ≤ ahead clock m
unfolding ahead
earlier clock f m c less before = omega arith

-- which come after those behind it
around : (clock f m : ℕ) → clock ≤ f → f < 65536 → m < clock → ahead clock f ≤ ahead clock m
unfolding ahead
around clock f m from fits before = omega arith

side : (a b : ℕ) → (a ≤ b) ⊎ (b < a)
side a b = grind arith

-- the first of what is due at any moment
abbrev pub at_once : ℕ → AgeDue
at_once clock = record { moment = clock; age = 0; key = first_key }

-- where something is due from this moment on
pub first_later : (clock : ℕ) (s : BTreeSet AgeDue) (f : AgeDue) (rest : List AgeDue) → f.moment < 65536 → sorted.IsKeyRangeOf due_cmp (Included (at_once clock)) Unbounded s (f ∷ rest)
    → (has_due s.keys f ≡ true) × IsIdleUntil clock (ahead clock f.moment) s.keys
first_later clock s f rest fits range =
    let from = moment_le (at_once clock) f range.1.0.0 in (
      sym (has-contains s f) ∙ range.1.1,
      record {
        none_before = λ d within there. elim (side clock d.moment) [
          | inl later_on ↦
              let le = range.2 d (first_due_le clock d later_on, tt) (has-contains s d ∙ there) in
              later clock f.moment d.moment from (moment_le f d le) within
          | inr before ↦ around clock f.moment d.moment from fits before
        ];
      },
    )

-- where nothing is
pub first_around : (clock : ℕ) (s : BTreeSet AgeDue) (f : AgeDue) → clock < 65536 → sorted.IsKeyRangeOf due_cmp (Included (at_once clock)) Unbounded s [] → sorted.IsLowerBound due_cmp s f
    → IsIdleUntil clock (ahead clock f.moment) s.keys
first_around clock s f c range least = record {
  none_before = λ d within there.
      let has_it = has-contains s d ∙ there in
      elim (side clock d.moment) [
        | inl later_on ↦ absurd (let none = range.5 refl d (first_due_le clock d later_on, tt) in cc)
        | inr before ↦ earlier clock f.moment d.moment c (moment_le f d (least d has_it)) before
      ];
}

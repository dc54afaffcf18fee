-- Counts of what was read, one after another.
use Rattle.std.proofs.Common.{Bool, ◌≡◌, ◌==◌, ◌<◌, ◌≤◌, ◌+◌, ℕ, zero, suc, List, [], ◌∷◌, true, false, cond, add-one, length, take, get_or, refl, sym, ap, ◌∙◌, arith}
use Rattle.std.specs.Prelude.{count_by, if◌then◌else◌, take_while}
use Rattle.std.specs.BTreeMap as tree
use Rattle.std.specs.List.{AllByRecursion}
use Rattle.std.proofs.lemmas.Bool.Decides.{nat_tests}
use Rattle.std.proofs.lemmas.List.Sums.{count_by_more_no, count_by_more_yes, take_while-cons}
use Rattle.ospf_views.specs.RecordFiles.Captures.{is_by}
use Rattle.ospf_views.specs.RecordFiles.Counts.{IsOneMoreOf, capped, count_in, counted_more}
use Rattle.ospf_world.specs.declared.ticks.Ticked.{Ticked}

capped_more : (n : ℕ) → counted_more (capped n) ≡ capped (n + 1)
unfolding capped counted_more
capped_more n = grind (arith, nat_tests)

count_more : {X : Type 0} (p : X → Bool) (xs : List X) (i : ℕ) (d : X) → i < length xs →
    (if p (get_or xs i d) then counted_more (capped (count_by p (take i xs))) else capped (count_by p (take i xs))) ≡ capped (count_by p (take (i + 1) xs))
count_more p xs i d within = by (p (get_or xs i d)) refl
  where
    by : (b : Bool) → p (get_or xs i d) ≡ b → (if b then counted_more (capped (count_by p (take i xs))) else capped (count_by p (take i xs))) ≡ capped (count_by p (take (i + 1) xs))
    by true is = capped_more (count_by p (take i xs)) ∙ ap capped (sym (count_by_more_yes p xs i d within is))
    by false is = ap capped (sym (count_by_more_no p xs i d within is))

-- one more is counted by its key
pub counts_more : {X : Type 0} (key : X → ℕ) (xs : List X) (i : ℕ) (d : X) (before after : tree.BTreeMap ℕ ℕ) → i < length xs → IsOneMoreOf (key (get_or xs i d)) before after →
    ((k : ℕ) → count_in before k ≡ capped (count_by (λ x. key x == k) (take i xs))) → (k : ℕ) → count_in after k ≡ capped (count_by (λ x. key x == k) (take (i + 1) xs))
counts_more key xs i d before after within counted counts k =
    counted k ∙ ap (λ (n : ℕ). if key (get_or xs i d) == k then counted_more n else n) (counts k) ∙ count_more (λ x. key x == k) xs i d within

all_suc : {X : Type 0} (P : X → Type 0) (xs : List X) (i : ℕ) (d : X) → i < length xs → AllByRecursion P (take i xs) → P (get_or xs i d) → AllByRecursion P (take (suc i) xs)
all_suc P [] i d within all one = absurd (omega (arith, within))
all_suc P (x ∷ xs) zero d within all one = (one, tt)
all_suc P (x ∷ xs) (suc i) d within all one = (all.0, all_suc P xs i d (omega (arith, within)) all.1 one)

pub all_more : {X : Type 0} (P : X → Type 0) (xs : List X) (i : ℕ) (d : X) → i < length xs → AllByRecursion P (take i xs) → P (get_or xs i d) → AllByRecursion P (take (i + 1) xs)
all_more P xs i d within all one = rw add-one (all_suc P xs i d within all one)

pub all_weaker : {X : Type 0} (P Q : X → Type 0) (xs : List X) → ((x : X) → P x → Q x) → AllByRecursion P xs → AllByRecursion Q xs
all_weaker P Q [] f all = tt
all_weaker P Q (x ∷ xs) f all = (f x all.0, all_weaker P Q xs f all.1)

by_true : (t : Ticked) (number : ℕ) → t.sent ≤ number → is_by number t ≡ true
by_true t number le = grind (arith, nat_tests)

pub by_false : (t : Ticked) (number : ℕ) → number < t.sent → is_by number t ≡ false
by_false t number lt = grind (arith, nat_tests)

-- what was read is all that came by then, where the next one did not, if there is one
pub all_read : (number : ℕ) (ticks : List Ticked) (i : ℕ) (d : Ticked) → AllByRecursion (λ t. t.sent ≤ number) (take i ticks) → (i < length ticks → is_by number (get_or ticks i d) ≡ false) → take_while (is_by number) ticks ≡ take i ticks
all_read number [] zero d came next = refl
all_read number [] (suc i) d came next = refl
all_read number (t ∷ ticks) zero d came next = take_while-cons (is_by number) t ticks ∙ ap (λ (b : Bool). cond b (t ∷ take_while (is_by number) ticks) []) (next (omega arith))
all_read number (t ∷ ticks) (suc i) d came next =
    take_while-cons (is_by number) t ticks ∙ ap (λ (b : Bool). cond b (t ∷ take_while (is_by number) ticks) []) (by_true t number came.0)
    ∙ ap (λ (ts : List Ticked). t ∷ ts) (all_read number ticks i d came.1 (λ within. next (omega (arith, within))))

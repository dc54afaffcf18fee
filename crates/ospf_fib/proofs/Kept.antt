-- The steps that keep the rule of the shared value.
use Rattle.std.proofs.Common.{◌≡◌, ⊎_elim, ℕ, true, false, List, [], ◌∷◌, ◌++◌, set, refl, sym, ap, ◌∙◌, subst, IsTrue, fold}
use Rattle.crossbeam_utils.specs.Register.{Admits, Turns, TurnsAt, Forks, Merges}
use Rattle.atomic_table.proofs.Lists.{at_set, at_snoc, set_again}
use Rattle.ospf_fib.specs.PrefixIndex.Rule.{counter_of}
use Rattle.ospf_fib.specs.declared.shown.ShownTable.{ShownTable}
use Rattle.ospf_fib.specs.declared.shown.HandedOver.{HandedOver}
use Rattle.ospf_fib.specs.declared.shown.Common.{Common}
use Rattle.ospf_fib.specs.declared.rule.Knows.{Knows}
use Rattle.ospf_fib.specs.Writing.{shown_after}
use Rattle.ospf_fib.specs.Rule.{IsOneList, FindsItsList, NamesTheList, knows, newcomer}

-- a newcomer is not named
quiet : (u : Knows) → newcomer ≡ u → IsTrue u.named → ⊥
quiet u t p = let x : true ≡ false = sym p ∙ sym (ap (λ k. k.named) t) in cc

-- a new place may come in
pub admits : Admits IsOneList newcomer
admits x views h j u e p = ⊎_elim (λ a. h j u a p) (λ t. absurd (quiet u t p)) (at_snoc views newcomer u j e)

-- a reader may enter
pub enters : (place : ℕ) (v : Knows) → Turns IsOneList place v (λ x. x) FindsItsList
enters place v x views h at = (v, subst (IsOneList x) (sym (set_again views place v at)) h, (refl, h place v at))

-- the writer may swap, to a table of the same list
pub swaps : (place : ℕ) (v : Knows) (x y : ShownTable) → counter_of y.known.fib ≡ counter_of x.known.fib → TurnsAt IsOneList place v x y NamesTheList
swaps place v x y same views h at = (
  knows true y.known.fib,
  (λ j u e p. ⊎_elim (λ t. sym (ap (λ k. k.counter) t.1)) (λ t. h j u t.1 p ∙ sym same) (at_set views place j (knows true y.known.fib) u e)),
  refl,
)

-- the writer may tell what it knows
pub forks : (place : ℕ) (v : Knows) → Forks IsOneList place v v v
forks place v x views h at j u e p =
    ⊎_elim (λ a. subst (IsOneList x) (sym (set_again views place v at)) h j u a p) (λ t. subst (λ k. IsTrue k.named → k.counter ≡ counter_of x.known.fib) t (h place v at) p) (at_snoc (set views place v) v u j e)

-- a seat may be told
pub merges : (place : ℕ) (v : Knows) (other : ℕ) (w : Knows) → Merges IsOneList place v other w w newcomer
merges place v other w x views h at apart there j u e p =
    let of_other = ⊎_elim (λ t. absurd (apart t.0)) (λ t. h other w t.1) (at_set views place other w w there) in
    ⊎_elim (λ t. absurd (quiet u t.1 p))
    (λ t. ⊎_elim (λ s. subst (λ k. IsTrue k.named → k.counter ≡ counter_of x.known.fib) s.1 of_other p) (λ s. h j u s.1 p) (at_set views place j w u t.1))
    (at_set (set views place w) other j newcomer u e)

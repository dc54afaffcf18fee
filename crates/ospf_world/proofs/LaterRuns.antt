-- A later run that is put at the place of its key, or behind the others, is that of its key alone.
use Rattle.std.proofs.Common.{◌≡◌, ◌<◌, ◌++◌, ℕ, zero, suc, Bool, true, false, List, [], ◌∷◌, Option, None, Some, find, length, get_or, set, refl, sym, ap, subst, ◌∙◌, arith, cond}
use Rattle.std.specs.List.{list_any, position}
use Rattle.std.proofs.lemmas.List.Quantifiers.{position-Some}
use Rattle.ospf_base.proofs.SameKeys.{same_key-eq, same_key-refl}
use Rattle.ospf_base.specs.Keys.{same_key}
use Rattle.ospf_base.specs.declared.ids.LsaKey.{LsaKey}
use Rattle.ospf_neighbour.proofs.KeyLemmas.{nowhere}
use Rattle.ospf_world.specs.Logs.{run_of}
use Rattle.ospf_world.specs.declared.logs.Run.{Run}

chosen : (b : Bool) (e : LsaKey × Run) (o : Option (LsaKey × Run)) (first : Run) → elim (cond b (Some e) o) [ None ↦ first | Some f ↦ f.1 ] ≡ cond b e.1 (elim o [ None ↦ first | Some f ↦ f.1 ])
chosen true e o first = refl
chosen false e o first = refl

-- the first entry is of the key, or another one is
run_of-first : (e : LsaKey × Run) (es : List (LsaKey × Run)) (first : Run) (key : LsaKey) → run_of first (e ∷ es) key ≡ cond (same_key e.0 key) e.1 (run_of first es key)
unfolding run_of
run_of-first e es first key = chosen (same_key e.0 key) e (find (λ f. same_key f.0 key) es) first

-- keys that differ do so the other way round
apart : (a b : LsaKey) → same_key a b ≡ false → same_key b a ≡ false
apart a b other = by (same_key b a) refl
  where
    by : (c : Bool) → same_key b a ≡ c → same_key b a ≡ false
    by true is = absurd (let one : same_key a b ≡ true = subst (λ (k : LsaKey). same_key a k ≡ true) (sym (same_key-eq b a is)) (same_key-refl a) in cc)
    by false is = is

-- behind an entry of another key
put_later : (e : LsaKey × Run) (es fs : List (LsaKey × Run)) (key : LsaKey) (run first : Run) (other : LsaKey) → same_key e.0 key ≡ false → run_of first fs other ≡ cond (same_key key other) run (run_of first es other)
    → run_of first (e ∷ fs) other ≡ cond (same_key key other) run (run_of first (e ∷ es) other)
put_later e es fs key run first other parts rest = run_of-first e fs first other ∙ by (same_key e.0 other) refl
  where
    by : (b : Bool) → same_key e.0 other ≡ b → cond (same_key e.0 other) e.1 (run_of first fs other) ≡ cond (same_key key other) run (run_of first (e ∷ es) other)
    by true is =
        let not_key : same_key key other ≡ false = subst (λ (k : LsaKey). same_key key k ≡ false) (same_key-eq e.0 other is) (apart e.0 key parts) in
        let found : run_of first (e ∷ es) other ≡ e.1 = run_of-first e es first other ∙ ap (λ b. cond b e.1 (run_of first es other)) is in
        ap (λ b. cond b e.1 (run_of first fs other)) is ∙ sym found ∙ sym (ap (λ b. cond b run (run_of first (e ∷ es) other)) not_key)
    by false is =
        let found : run_of first (e ∷ es) other ≡ run_of first es other = run_of-first e es first other ∙ ap (λ b. cond b e.1 (run_of first es other)) is in
        ap (λ b. cond b e.1 (run_of first fs other)) is ∙ rest ∙ ap (λ r. cond (same_key key other) run r) (sym found)

put_first : (e : LsaKey × Run) (es : List (LsaKey × Run)) (key : LsaKey) (run first : Run) (other : LsaKey) → same_key e.0 key ≡ true → run_of first ((key, run) ∷ es) other ≡ cond (same_key key other) run (run_of first (e ∷ es) other)
put_first e es key run first other one = run_of-first (key, run) es first other ∙ by (same_key key other) refl
  where
    by : (b : Bool) → same_key key other ≡ b → cond (same_key key other) run (run_of first es other) ≡ cond (same_key key other) run (run_of first (e ∷ es) other)
    by true is = ap (λ b. cond b run (run_of first es other)) is ∙ sym (ap (λ b. cond b run (run_of first (e ∷ es) other)) is)
    by false is =
        let not_e : same_key e.0 other ≡ false = subst (λ (k : LsaKey). same_key k other ≡ false) (sym (same_key-eq e.0 key one)) is in
        let found : run_of first (e ∷ es) other ≡ run_of first es other = run_of-first e es first other ∙ ap (λ b. cond b e.1 (run_of first es other)) not_e in
        ap (λ r. cond (same_key key other) run r) (sym found)

put_at : (d : LsaKey × Run) (es : List (LsaKey × Run)) (at : ℕ) (key : LsaKey) (run first : Run) (other : LsaKey) → at < length es → same_key (get_or es at d).0 key ≡ true
    → ((k : ℕ) → k < at → same_key (get_or es k d).0 key ≡ false) → run_of first (set es at (key, run)) other ≡ cond (same_key key other) run (run_of first es other)
put_at d [] at key run first other within one before = absurd (omega (arith, within))
put_at d (e ∷ es) zero key run first other within one before = put_first e es key run first other one
put_at d (e ∷ es) (suc at) key run first other within one before =
    put_later e es (set es at (key, run)) key run first other (before 0 (omega arith)) (put_at d es at key run first other (omega (arith, within)) one (λ k less. before (suc k) (omega (arith, less))))

-- in the place of its entry
pub put_in_place : (es : List (LsaKey × Run)) (at : ℕ) (key : LsaKey) (run first : Run) (other : LsaKey) → position (λ e. same_key e.0 key) es ≡ Some at
    → run_of first (set es at (key, run)) other ≡ cond (same_key key other) run (run_of first es other)
put_in_place es at key run first other found =
    let d : LsaKey × Run = (key, run) in
    let there = position-Some (λ e. same_key e.0 key) es at d found in
    put_at d es at key run first other there.0 there.1 there.2

put_last : (es : List (LsaKey × Run)) (key : LsaKey) (run first : Run) (other : LsaKey) → list_any (λ e. same_key e.0 key) es ≡ false
    → run_of first (es ++ (key, run) ∷ []) other ≡ cond (same_key key other) run (run_of first es other)
put_last [] key run first other none = run_of-first (key, run) [] first other
put_last (e ∷ es) key run first other none = by (same_key e.0 key) refl (put_last es key run first other)
  where
    by : (b : Bool) → same_key e.0 key ≡ b → (list_any (λ e. same_key e.0 key) es ≡ false → run_of first (es ++ (key, run) ∷ []) other ≡ cond (same_key key other) run (run_of first es other))
        → run_of first (e ∷ es ++ (key, run) ∷ []) other ≡ cond (same_key key other) run (run_of first (e ∷ es) other)
    by true is rest = absurd (let any : list_any (λ e. same_key e.0 key) (e ∷ es) ≡ true = rw is refl in cc)
    by false is rest =
        let none_behind : list_any (λ e. same_key e.0 key) es ≡ false = simp is at none in
        put_later e es (es ++ (key, run) ∷ []) key run first other is (rest none_behind)

-- behind the others, where it has none
pub put_behind : (es : List (LsaKey × Run)) (key : LsaKey) (run first : Run) (other : LsaKey) → position (λ e. same_key e.0 key) es ≡ None
    → run_of first (es ++ (key, run) ∷ []) other ≡ cond (same_key key other) run (run_of first es other)
put_behind es key run first other none = put_last es key run first other (nowhere (λ e. same_key e.0 key) es none)

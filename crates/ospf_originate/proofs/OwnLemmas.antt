-- Wanted LSAs by key, and keys that are due.
use Rattle.std.proofs.Common.{◌≡◌, ◌<◌, ◌≤◌, ◌+◌, ℕ, length, drop, get_or, subst, add-one, Bool, true, false, List, [], ◌∷◌, map, find, Option, None, Some, option_map, refl, sym, ap, ◌∙◌, if◌then◌else◌}
use Rattle.std.specs.Prelude.{option_copied}
use Rattle.std.proofs.Math.Seq.{drop-cons}
use Rattle.std.proofs.lemmas.List.{drop_all}
use denote.Ref.{Bor}
use Rattle.ospf_originate.specs.Wants.Wanted.{WantedValue}
use Rattle.ospf_area.specs.Outputs.{OutputsValue}
use Rattle.ospf_area.specs.State.{AreaValue}
use Rattle.ospf_originate.specs.Steps.{Acts}
use Rattle.ospf_originate.proofs.Words.{ActsInTurn}
use Rattle.ospf_originate.specs.declared.action.DueAction.{DueAction}

pick : {X Y : Type 0} → (f : X → Y) (b : Bool) (x : X) (o : Option X) (p : Option Y) → option_map f o ≡ p → option_map f (if b then Some x else o) ≡ (if b then Some (f x) else p)
pick f true x o p is = refl
pick f false x o p is = is

-- what is found is found among what its elements are seen as
pub find_seen : {X Y : Type 0} → (f : X → Y) (test : Y → Bool) (xs : List X) → option_map f (find (λ x. test (f x)) xs) ≡ find test (map f xs)
find_seen f test [] = refl
find_seen f test (x ∷ xs) = pick f (test (f x)) x (find (λ x. test (f x)) xs) (find test (map f xs)) (find_seen f test xs)

-- what is lent is seen as what it is
pub seen_lent : {X Y : Type 0} → (f : X → Y) (o : Option (Bor X)) → option_map (λ (w : Bor X). f w.now) o ≡ option_map f (option_copied o)
seen_lent f None = refl
seen_lent f (Some w) = refl

-- ---- what is due, one after the other

-- all that is due from a place on, done from this state, is all that was due, done from the first one
abbrev pub Continues : List WantedValue → List DueAction → ℕ → AreaValue → OutputsValue → AreaValue → OutputsValue → Type 0
Continues ws ds i s0 o0 s o = (end : AreaValue) (end_out : OutputsValue) → ActsInTurn ws (drop i ds) s o end_out end → ActsInTurn ws ds s0 o0 end_out end

pub continues_on : (ws : List WantedValue) (ds : List DueAction) (i : ℕ) (d : DueAction) (s0 : AreaValue) (o0 : OutputsValue) (s : AreaValue) (o : OutputsValue) (s' : AreaValue) (o' : OutputsValue)
    → i < length ds → Acts (get_or ds i d).action ws (get_or ds i d).key s o o' s' → Continues ws ds i s0 o0 s o → Continues ws ds (i + 1) s0 o0 s' o'
continues_on ws ds i d s0 o0 s o s' o' within once before end end_out rest =
    before end end_out (subst (λ (ds' : List DueAction). ActsInTurn ws ds' s o end_out end) (sym (drop-cons ds i d within ∙ ap (λ (k : ℕ). get_or ds i d ∷ drop k ds) (sym (add-one i))))
    (s', o', once, rest))

pub continues_all : (ws : List WantedValue) (ds : List DueAction) (i : ℕ) (s0 : AreaValue) (o0 : OutputsValue) (s : AreaValue) (o : OutputsValue)
    → length ds ≤ i → Continues ws ds i s0 o0 s o → ActsInTurn ws ds s0 o0 o s
continues_all ws ds i s0 o0 s o past before =
    before s o (subst (λ (ds' : List DueAction). ActsInTurn ws ds' s o o s) (sym (drop_all i ds past)) (record { state = refl; outputs = refl }))

-- What is listed after a step was listed before, but at the keys that it took or issued.
use Rattle.std.proofs.Common.{◌≡◌, ◌≢◌, IsTrue, is_some, ◌⊎◌, inl, inr, ℕ, Bool, true, false, List, [], Option, None, Some, sym, ap, ◌∙◌, subst, refl}
use Rattle.std.specs.List.{All, Contains}
use Rattle.std.proofs.lemmas.List.Elements.{All-contains}
use Rattle.ospf_base.specs.declared.ids.Instance.{Instance}
use Rattle.ospf_router.proofs.AreaStep.StateFacts.{Contains-nil}
use Rattle.ospf_router.specs.AreaStep.Words.{Brings}
use Rattle.ospf_lsa.specs.Lsa.{key_of}
use Rattle.ospf_area.specs.Outputs.{OutputsValue}
use Rattle.ospf_area.specs.State.{AreaValue}
use Rattle.ospf_base.specs.declared.ids.LsaKey.{LsaKey}
use Rattle.ospf_router.specs.AreaStep.Step.{Event, StepLaws}
use Rattle.ospf_lsdb.specs.Database.{Entry, Held, entry_of, is_fresh}
use Rattle.ospf_router.specs.declared.step.dropped.Dropped.{Dropped}
use Rattle.ospf_router.specs.AreaStep.Drops.{is_dropped}
use Rattle.ospf_router.proofs.KeepLemmas.{lists_each}
use Rattle.ospf_router.proofs.TouchedChains.{step_keeps, KeepsBut}
use Rattle.ospf_router.specs.Listings.{AreListedAt, ListsAs, ListsBut, ListsEntry, StayListed}
use Rattle.ospf_router.specs.Touched.{TouchesKey}

module _ (out : OutputsValue) (s t : AreaValue) (lsas : List (List ℕ)) (keeps : KeepsBut out s t) (lists : ListsAs s.database lsas) where
  none_at : (key : LsaKey) (e : Entry) → entry_of t.database key ≡ Some e → entry_of t.database key ≡ None → ⊥
  none_at key e is none = let no : None ≡ Some e = sym none ∙ is in cc

  old_at : (key : LsaKey) (e : Entry) → entry_of t.database key ≡ Some e → is_fresh e ≡ false → AreListedAt t.database key lsas
  old_at key e at old d is fresh = absurd (let same : Some d ≡ Some e = sym is ∙ at in let one : d ≡ e = (cc) in let no : is_fresh e ≡ true = subst (λ (x : Entry). is_fresh x ≡ true) one fresh in cc)

  fresh_at : (key : LsaKey) (e : Entry) → entry_of t.database key ≡ Some e → is_fresh e ≡ true → TouchesKey out key ⊎ AreListedAt t.database key lsas
  fresh_at key e at fresh = elim (keeps key e at fresh) [
    | inl touched ↦ inl touched
    | inr d ↦ inr (λ x is young. let same : Some e ≡ Some x = sym at ∙ is in let one : e ≡ x = (cc) in let l = lists_each s.database lsas key lists d.0 d.1 d.2 in subst (λ (y : Entry). ListsEntry lsas y) one (l.0, l.1, l.2 ∙ d.3))
  ]

  pub lists_but : ListsBut out t.database lsas
  lists_but key = by (entry_of t.database key) refl
    where
      by : (o : Option Entry) → entry_of t.database key ≡ o → TouchesKey out key ⊎ AreListedAt t.database key lsas
      by None at = inr (λ e is fresh. absurd (none_at key e is at))
      by (Some e) at = go (is_fresh e) refl
        where
          go : (b : Bool) → is_fresh e ≡ b → TouchesKey out key ⊎ AreListedAt t.database key lsas
          go true fresh = fresh_at key e at fresh
          go false old = inr (old_at key e at old)

pub step_lists : (e : Event) (s t : AreaValue) (out : OutputsValue) (lsas : List (List ℕ)) → StepLaws is_dropped e s out t → ListsAs s.database lsas → ListsBut out t.database lsas
step_lists e s t out lsas laws lists = lists_but out s t lsas (step_keeps is_dropped e s out t laws) lists

-- a step that is dropped
pub dropped_same : (dropped : Option Dropped) (s t : AreaValue) (P : AreaValue → Type 0) → (dropped ≢ None → t ≡ s) → IsTrue (is_some dropped) → P s → P t
dropped_same None s t P same is h = absurd (cc)
dropped_same (Some cause) s t P same is h = subst P (sym (same (λ none. cc))) h

-- once what was taken is listed and then what was issued, all is
pub all_listed : (out : OutputsValue) (db : List Held) (first mid last : List (List ℕ)) → ListsBut out db first → All (λ (i : Instance). AreListedAt db i.key mid) out.taken → StayListed db first mid
    → All (λ (lsa : List ℕ). AreListedAt db (key_of lsa) last) out.issued → StayListed db mid last → (key : LsaKey) → AreListedAt db key last
all_listed out db first mid last but taken stay issued stay_last key = elim (but key) [
  | inl touched ↦ subst (λ (k : LsaKey). AreListedAt db k last) touched.2 (by touched.0 touched.1)
  | inr was ↦ stay_last key (stay key was)
]
  where
    by : (i : Instance) → Brings out i → AreListedAt db i.key last
    by i (Brings.Takes c) = stay_last i.key (All-contains (λ (j : Instance). AreListedAt db j.key mid) out.taken i taken c)
    by i (Brings.Issues lsa c e) = subst (λ (k : LsaKey). AreListedAt db k last) (ap (λ (j : Instance). j.key) e) (All-contains (λ (l : List ℕ). AreListedAt db (key_of l) last) out.issued lsa issued c)

-- where nothing was taken or issued, all is
pub none_brought : (out : OutputsValue) (db : List Held) (lsas : List (List ℕ)) → ListsBut out db lsas → out.taken ≡ [] → out.issued ≡ [] → (key : LsaKey) → AreListedAt db key lsas
none_brought out db lsas but taken issued key = elim (but key) [
  | inl touched ↦ absurd (by touched.0 touched.1)
  | inr was ↦ was
]
  where
    by : (i : Instance) → Brings out i → ⊥
    by i (Brings.Takes c) = Contains-nil i (subst (λ (is : List Instance). Contains is i) taken c)
    by i (Brings.Issues lsa c e) = Contains-nil lsa (subst (λ (ls : List (List ℕ)). Contains ls lsa) issued c)

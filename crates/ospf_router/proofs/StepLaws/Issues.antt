-- A step issues exactly what is due in the state in which its own LSAs begin (RFC 2328, section 12.4).
use Rattle.std.proofs.Common.{◌≡◌, ◌⊎◌, inl, inr, ◌+ℤ◌, ◌++◌, ℕ, ℤ, pos, zero, suc, Bool, true, false, List, [], ◌∷◌, Option, None, Some, length, refl, sym, ap, subst, ◌∙◌, append-nil, append_assoc, arith}
use Rattle.std.specs.List.{Contains, flat_map}
use Rattle.std.proofs.lemmas.Bool.{false≢true}
use Rattle.std.proofs.lemmas.List.Elements.{Contains-append_cases, Contains-append_left, Contains-append_right}
use Rattle.std.proofs.lemmas.Option.{none-some}
use Rattle.ospf_area.specs.Outputs.{OutputsValue, no_outputs}
use Rattle.ospf_area.specs.State.{AreaValue, kept_number}
use Rattle.ospf_area.specs.Updates.Removal.{leaving}
use Rattle.ospf_base.proofs.SameKeys.{same_key-eq}
use Rattle.ospf_base.specs.Keys.{same_key}
use Rattle.ospf_base.specs.declared.ids.LsaKey.{LsaKey}
use Rattle.ospf_lsa.specs.Lsa.{instance_of, key_of}
use Rattle.ospf_lsa.specs.Value.{IsMade}
use Rattle.ospf_lsdb.specs.Moments.{among}
use Rattle.ospf_originate.proofs.KeepLemmas.{issue_tells, made_key, made_number}
use Rattle.ospf_originate.proofs.Words.{ActsInTurn, IssuesIf, due_as}
use Rattle.ospf_originate.specs.Steps.{Acts, IsDue, action_of, wants}
use Rattle.ospf_originate.specs.Wants.Made.{lsa_value}
use Rattle.ospf_originate.specs.Wants.Wanted.{WantedValue, wanted_key, wanted_of}
use Rattle.ospf_originate.specs.declared.action.DueAction.{DueAction}
use Rattle.ospf_originate.specs.declared.action.OwnAction.{OwnAction}
use Rattle.ospf_originate.specs.declared.action.OwnAction.TheVariants.{Leave, Flush, Issue}
use Rattle.ospf_router.proofs.AreaStep.SentFacts.{flat_map-members}
use Rattle.ospf_router.proofs.AreaStep.StateFacts.{Contains-nil, find-some}
use Rattle.ospf_router.proofs.StepLaws.Outputs.{elects_from, event_issues, issued_by, removals}
use Rattle.ospf_router.specs.Laws.{IssueLaw}
use Rattle.ospf_router.specs.Stepped.{IsDueLsa, Stepped}
use Rattle.ospf_router.specs.AreaStep.Steps.{Takes}

-- ---- what one action issues

-- the LSA is what an action on a key issues
record IsIssueBy (ws : List WantedValue) (x : DueAction) (lsa : List ℕ) : Type 0 where
  number : ℤ
  value : WantedValue
  action : x.action ≡ Issue number
  wanted : wanted_of ws x.key ≡ Some value
  made : IsMade (lsa_value number value) lsa

-- the LSAs that these actions issue: each is of one of them, and each issue has one
record AreIssues (ws : List WantedValue) (ds : List DueAction) (out out' : OutputsValue) : Type 0 where
  lsas : List (List ℕ)
  issued : out'.issued ≡ out.issued ++ lsas
  each : (lsa : List ℕ) → Contains lsas lsa → (x : DueAction) × Contains ds x × IsIssueBy ws x lsa
  all : (x : DueAction) (number : ℤ) (value : WantedValue) → Contains ds x → x.action ≡ Issue number → wanted_of ws x.key ≡ Some value
      → (lsa : List ℕ) × Contains lsas lsa × IsIssueBy ws x lsa

pub first : {X : Type 0} (x : X) (xs : List X) → Contains (x ∷ xs) x
first x xs = (zero, omega arith, refl)

pub later : {X : Type 0} (y : X) (xs : List X) (x : X) → Contains xs x → Contains (y ∷ xs) x
later y xs x (k, within, is) = (suc k, omega arith, is)

pub first_or_later : {X : Type 0} (y : X) (xs : List X) (x : X) → Contains (y ∷ xs) x → (y ≡ x) ⊎ Contains xs x
first_or_later y xs x (zero, within, is) = inl is
first_or_later y xs x (suc k, within, is) = inr (k, omega arith, is)

-- an action that issues nothing
none_issued : (ws : List WantedValue) (x : DueAction) (out out' : OutputsValue) → out'.issued ≡ out.issued → ((number : ℤ) (value : WantedValue) → x.action ≡ Issue number → wanted_of ws x.key ≡ Some value → ⊥)
    → AreIssues ws (x ∷ []) out out'
none_issued ws x out out' same never = record {
  lsas = [];
  issued = same ∙ sym (append-nil out.issued);
  each = λ lsa c. absurd (Contains-nil lsa c);
  all = λ y number value c action wanted. elim (first_or_later x [] y c) [
    | inl is ↦ absurd (never number value (ap (λ (z : DueAction). z.action) is ∙ action) (ap (λ (z : DueAction). wanted_of ws z.key) is ∙ wanted))
    | inr rest ↦ absurd (Contains-nil y rest)
  ];
}

one_action : (ws : List WantedValue) (x : DueAction) (s : AreaValue) (out out' : OutputsValue) (t : AreaValue) → Acts x.action ws x.key s out out' t → AreIssues ws (x ∷ []) out out'
one_action ws x s out out' t acts = by x.action refl acts
  where
    by : (a : OwnAction) → x.action ≡ a → Acts a ws x.key s out out' t → AreIssues ws (x ∷ []) out out'
    by Leave at is = none_issued ws x out out' (issued_by out' out is.outputs) (λ number value action wanted. let no : Leave ≡ Issue number = sym at ∙ action in cc)
    by Flush at is = none_issued ws x out out' (issued_by out' _ is.sends.outputs) (λ number value action wanted. let no : Flush ≡ Issue number = sym at ∙ action in cc)
    by (Issue number) at is = by_wanted (wanted_of ws x.key) refl is
      where
        by_wanted : (o : Option WantedValue) → wanted_of ws x.key ≡ o → IssuesIf o number s out out' t → AreIssues ws (x ∷ []) out out'
        by_wanted None none is = none_issued ws x out out' (issued_by out' out is.outputs) (λ n value action wanted. none-some value (sym none ∙ wanted))
        by_wanted (Some w) wanted is =
            let here : IsIssueBy ws x is.issues.lsa = record { number = number; value = w; action = at; wanted = wanted; made = is.issues.made } in
            record {
              lsas = is.issues.lsa ∷ [];
              issued = issued_by out' _ is.outputs ∙ issued_by is.mid_out _ is.issues.outputs;
              each = λ lsa c. elim (first_or_later is.issues.lsa [] lsa c) [
                | inl same ↦ (x, first x [], subst (λ l. IsIssueBy ws x l) same here)
                | inr rest ↦ absurd (Contains-nil lsa rest)
              ];
              all = λ y n value c action is_wanted. elim (first_or_later x [] y c) [
                | inl same ↦ (is.issues.lsa, first is.issues.lsa [], subst (λ (z : DueAction). IsIssueBy ws z is.issues.lsa) same here)
                | inr rest ↦ absurd (Contains-nil y rest)
              ];
            }

-- ---- all actions, one after the other

both_issue : (ws : List WantedValue) (x : DueAction) (ds : List DueAction) (out mid out' : OutputsValue) → AreIssues ws (x ∷ []) out mid → AreIssues ws ds mid out' → AreIssues ws (x ∷ ds) out out'
both_issue ws x ds out mid out' one rest = record {
  lsas = one.lsas ++ rest.lsas;
  issued = rest.issued ∙ (ap (λ ls. ls ++ rest.lsas) one.issued ∙ append_assoc out.issued one.lsas rest.lsas);
  each = λ lsa c. elim (Contains-append_cases one.lsas rest.lsas lsa c) [
    | inl here ↦ (let (y, inside, is) = one.each lsa here in (y, Contains-append_left (x ∷ []) ds y inside, is))
    | inr there ↦ (let (y, inside, is) = rest.each lsa there in (y, later x ds y inside, is))
  ];
  all = λ y number value c action wanted. elim (first_or_later x ds y c) [
    | inl same ↦ (let (lsa, inside, is) = one.all y number value (subst (λ z. Contains (x ∷ []) z) same (first x [])) action wanted in (lsa, Contains-append_left one.lsas rest.lsas lsa inside, is))
    | inr there ↦ (let (lsa, inside, is) = rest.all y number value there action wanted in (lsa, Contains-append_right one.lsas rest.lsas lsa inside, is))
  ];
}

all_issue : (ws : List WantedValue) (ds : List DueAction) (s : AreaValue) (out out' : OutputsValue) (t : AreaValue) → ActsInTurn ws ds s out out' t → AreIssues ws ds out out'
all_issue ws [] s out out' t is = record {
  lsas = [];
  issued = issued_by out' out is.outputs ∙ sym (append-nil out.issued);
  each = λ lsa c. absurd (Contains-nil lsa c);
  all = λ x number value c action wanted. absurd (Contains-nil x c);
}
all_issue ws (x ∷ ds) s out out' t (mid, so_far, acts, rest) = both_issue ws x ds out so_far out' (one_action ws x s out so_far mid acts) (all_issue ws ds mid so_far out' t rest)

-- ---- what is due

has_key : (keys : List LsaKey) (key : LsaKey) → among keys key ≡ true → Contains keys key
has_key [] key is = absurd (false≢true is)
has_key (k ∷ keys) key is = by (λ behind. has_key keys key behind) (same_key k key) refl
  where
    by : (among keys key ≡ true → Contains keys key) → (b : Bool) → same_key k key ≡ b → Contains (k ∷ keys) key
    by rest true same = subst (λ x. Contains (x ∷ keys) key) (sym (same_key-eq k key same)) (first key keys)
    by rest false other = later k keys key (rest (simp other at is))

flat_map-has : {X Y : Type 0} (f : X → List Y) (xs : List X) (x : X) (y : Y) → Contains xs x → Contains (f x) y → Contains (flat_map f xs) y
flat_map-has f [] x y c inside = absurd (Contains-nil x c)
flat_map-has f (z ∷ xs) x y c inside = elim (first_or_later z xs x c) [
  | inl same ↦ Contains-append_left (f z) (flat_map f xs) y (subst (λ w. Contains (f w) y) (sym same) inside)
  | inr rest ↦ Contains-append_right (f z) (flat_map f xs) y (flat_map-has f xs x y rest inside)
]

-- an entry of what is due of a key is that action on the key
due_is : (a : OwnAction) (key : LsaKey) (x : DueAction) (number : ℤ) → Contains (due_as a key) x → x.action ≡ Issue number → (a ≡ Issue number) × (key ≡ x.key)
due_is Leave key x number c is = absurd (Contains-nil x c)
due_is Flush key x number c is = let y : DueAction = record { key = key; action = Flush } in elim (first_or_later y [] x c) [
  | inl same ↦ absurd (let no : Flush ≡ Issue number = ap (λ (z : DueAction). z.action) same ∙ is in cc)
  | inr rest ↦ absurd (Contains-nil x rest)
]
due_is (Issue n) key x number c is = let y : DueAction = record { key = key; action = Issue n } in elim (first_or_later y [] x c) [
  | inl same ↦ (ap (λ (z : DueAction). z.action) same ∙ is, ap (λ (z : DueAction). z.key) same)
  | inr rest ↦ absurd (Contains-nil x rest)
]

module _ (s : AreaValue) (due : List DueAction) (is : IsDue s due) where
  due_action : (x : DueAction) (number : ℤ) → Contains due x → x.action ≡ Issue number → action_of s x.key ≡ Issue number
  due_action x number c issue =
      let (key, inside, here) = flat_map-members (λ key. due_as (action_of s key) key) is.keys x (subst (λ ds. Contains ds x) is.is c) in
      let (at, same) = due_is (action_of s key) key x number here issue in
      subst (λ k. action_of s k ≡ Issue number) same at

  due_has : (key : LsaKey) (number : ℤ) → action_of s key ≡ Issue number → Contains due (record { key = key; action = Issue number })
  due_has key number at =
      let x : DueAction = record { key = key; action = Issue number } in
      let among_keys : among is.keys key ≡ true = by (among is.keys key) refl in
      let entry : Contains (due_as (action_of s key) key) x = subst (λ a. Contains (due_as a key) x) (sym at) (first x []) in
      subst (λ ds. Contains ds x) (sym is.is) (flat_map-has (λ key. due_as (action_of s key) key) is.keys key x (has_key is.keys key among_keys) entry)
    where
      by : (b : Bool) → among is.keys key ≡ b → among is.keys key ≡ true
      by true same = same
      by false other = absurd (let leave : Leave ≡ Issue number = sym (is.whole key other) ∙ at in cc)

  -- the key of an LSA that is made of what is wanted of a key
  made_of : (key : LsaKey) (number : ℤ) (w : WantedValue) (lsa : List ℕ) → wanted_of (wants s) key ≡ Some w → IsMade (lsa_value number w) lsa → key_of lsa ≡ key
  made_of key number w lsa wanted made =
      let (inside, same) = find-some (λ w. same_key (wanted_key w) key) (wants s) w wanted in
      made_key number w lsa made ∙ same_key-eq (wanted_key w) key same

  due_lsa : (x : DueAction) (lsa : List ℕ) → Contains due x → IsIssueBy (wants s) x lsa → IsDueLsa s lsa
  due_lsa x lsa c by =
      let key_is : key_of lsa ≡ x.key = made_of x.key by.number by.value lsa by.wanted by.made in
      let number_is : (instance_of lsa).number ≡ by.number = made_number by.number by.value lsa by.made in
      let at : action_of s x.key ≡ Issue by.number = due_action x by.number c by.action in
      let next : by.number ≡ kept_number s x.key +ℤ pos 1 = (issue_tells s x.key by.number at).next in
      record {
        wanted = by.value;
        is_wanted = ap (wanted_of (wants s)) key_is ∙ by.wanted;
        number = number_is ∙ (next ∙ ap (λ k. kept_number s k +ℤ pos 1) (sym key_is));
        due = ap (action_of s) key_is ∙ (at ∙ ap Issue (sym number_is));
        made = subst (λ n. IsMade (lsa_value n by.value) lsa) (sym number_is) by.made;
      }

-- ---- a step

pub issue_law : (d : Stepped) → (d.dropped ≡ None → Takes d.event d.before d.out d.after) → IssueLaw d
issue_law d takes none =
    let is = takes none in
    let end = is.end in
    let s = end.elected in
    let due = end.own.due in
    let before : end.elected_out.issued ≡ [] = (elects_from (length is.mid.links) is.mid is.mid_out s end.elected_out end.elects).0 ∙ event_issues d.event d.before no_outputs is.mid_out is.mid is.event in
    let own : AreIssues (wants s) due end.elected_out end.issued_out = all_issue (wants s) due s end.elected_out end.issued_out end.own.mid end.own.each in
    let issued : d.out.issued ≡ own.lsas = (removals (leaving end.issued) end.issued end.issued_out d.out d.after end.removes).0 ∙ (own.issued ∙ ap (λ ls. ls ++ own.lsas) before) in (
      s,
      record { mid = is.mid; mid_out = is.mid_out; out = end.elected_out; event = is.event; elections = end.elects },
      (λ lsa c. let (x, inside, by) = own.each lsa (subst (λ ls. Contains ls lsa) issued c) in due_lsa s due end.own.is_due x lsa inside by),
      (λ key number at.
          let x : DueAction = record { key = key; action = Issue number } in
          let tells = issue_tells s key number at in
          let (lsa, inside, by) = own.all x number tells.value (due_has s due end.own.is_due key number at) refl tells.is_wanted in
          (lsa, subst (λ ls. Contains ls lsa) (sym issued) inside, made_of s due end.own.is_due key by.number by.value lsa by.wanted by.made)),
    )

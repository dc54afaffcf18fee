-- The key of an LSA that is made, and what actions tell.
use Rattle.std.proofs.Common.{◌==◌, ◌≡◌, ◌≤ℤ◌, ◌<ℤ◌, ◌+ℤ◌, ◌&&◌, ◌||◌, ℕ, ℤ, pos, Bool, true, false, List, Option, None, Some, inl, inr, refl, sym, ap, ◌∙◌, if◌then◌else◌, arith}
use Rattle.std.specs.Prelude.{not, int_lt}
use Rattle.std.specs.Ordering.{int_eq}
use Rattle.std.proofs.lemmas.Bool.{false≢true}
use Rattle.std.proofs.lemmas.Int.{ints}
use Rattle.ospf_base.specs.declared.ids.Kind.TheVariants.{Router, Network}
use Rattle.ospf_base.specs.declared.ids.LsaKey.{LsaKey}
use Rattle.ospf_flood.specs.Rules.{max_sequence_number}
use Rattle.ospf_lsa.specs.Header.{header_of}
use Rattle.ospf_lsa.specs.Lsa.{key_of}
use Rattle.ospf_lsa.specs.Recency.{recency}
use Rattle.ospf_lsa.specs.Value.{LsaValue, IsMade, with_sum}
use Rattle.ospf_lsa.specs.declared.header.LsaHeader.{LsaHeader}
use Rattle.ospf_lsa.specs.declared.recency.Recency.TheVariants.{Newer}
use Rattle.ospf_lsdb.proofs.MapLemmas.{bool_cases}
use Rattle.ospf_lsdb.specs.Database.{Entry, is_fresh}
use Rattle.ospf_area.specs.Numbers.{is_own}
use Rattle.ospf_area.specs.State.{AreaValue, database_entry, kept_number}
use Rattle.ospf_originate.specs.Actions.{own_action, wanted_action, unwanted_action, next_action, is_due}
use Rattle.ospf_originate.specs.Laws.{IsNextIssue}
use Rattle.ospf_originate.specs.Wants.Made.{lsa_value}
use Rattle.ospf_originate.specs.Numbers.{waits}
use Rattle.ospf_lsdb.specs.Moments.{among}
use Rattle.ospf_originate.specs.Steps.{wants, action_of}
use Rattle.ospf_originate.specs.Wants.Wanted.{WantedValue, wanted_key, wanted_of}
use Rattle.ospf_originate.specs.Wants.Wanted.WantedValue.{RouterLsa, NetworkLsa}
use Rattle.ospf_originate.specs.declared.action.OwnAction.TheVariants.{Leave, Flush, Issue}
use Rattle.ospf_originate.proofs.Words.{makes_room}

-- ---- the key and the number of an LSA that is made

key_from_header : LsaHeader → LsaKey
key_from_header h = record { kind = if h.kind == 2 then Network else Router; id = h.id; router = h.router }

key_by_header : (lsa : List ℕ) → key_of lsa ≡ key_from_header (header_of lsa)
unfolding key_from_header
key_by_header lsa = refl

made_header : (number : ℤ) (w : WantedValue) (sum : ℕ) → key_from_header (with_sum (lsa_value number w) sum).header ≡ wanted_key w
unfolding key_from_header
made_header number (RouterLsa router links) sum = refl
made_header number (NetworkLsa id router mask routers) sum = refl

pub made_key : (number : ℤ) (w : WantedValue) (lsa : List ℕ) → IsMade (lsa_value number w) lsa → key_of lsa ≡ wanted_key w
made_key number w lsa made = key_by_header lsa ∙ ap (λ (v : LsaValue). key_from_header v.header) made.read ∙ made_header number w made.sum

header_number : (number : ℤ) (w : WantedValue) (sum : ℕ) → (with_sum (lsa_value number w) sum).header.number ≡ number
header_number number (RouterLsa router links) sum = refl
header_number number (NetworkLsa id router mask routers) sum = refl

pub made_number : (number : ℤ) (w : WantedValue) (lsa : List ℕ) → IsMade (lsa_value number w) lsa → (header_of lsa).number ≡ number
made_number number w lsa made = ap (λ (v : LsaValue). v.header.number) made.read ∙ header_number number w made.sum

pub if_false : {X : Type 0} → (b : Bool) (x y : X) → b ≡ false → (if b then x else y) ≡ y
if_false true x y is = absurd (false≢true (sym is))
if_false false x y is = refl

pub if_true : {X : Type 0} → (b : Bool) (x y : X) → b ≡ true → (if b then x else y) ≡ x
if_true true x y is = refl
if_true false x y is = absurd (false≢true is)

-- ---- what an action tells

room_is_none : (copy : Option Entry) (number : ℤ) → makes_room copy ≡ Issue number → ⊥
room_is_none None number is = cc
room_is_none (Some copy) number is = elim (bool_cases (is_fresh copy)) [
  | inl fresh ↦ (let no_issue : Flush ≡ Issue number = sym (if_true (is_fresh copy) Flush Leave fresh) ∙ is in cc)
  | inr old ↦ (let no_issue : Leave ≡ Issue number = sym (if_false (is_fresh copy) Flush Leave old) ∙ is in cc)
]

next_tells : (copy : Option Entry) (kept number : ℤ) → next_action copy kept ≡ Issue number → number ≡ kept +ℤ pos 1
next_tells copy kept number is = elim (bool_cases (int_eq kept max_sequence_number)) [
  | inl last ↦ absurd (room_is_none copy number (sym (if_true (int_eq kept max_sequence_number) (makes_room copy) (Issue (kept +ℤ pos 1)) last) ∙ is))
  | inr more ↦ (let same : Issue (kept +ℤ pos 1) ≡ Issue number = sym (if_false (int_eq kept max_sequence_number) (makes_room copy) (Issue (kept +ℤ pos 1)) more) ∙ is in cc)
]

unwanted_is_none : (copy : Option Entry) (heard own : Bool) (number : ℤ) → unwanted_action copy heard own ≡ Issue number → ⊥
unwanted_is_none None heard own number is = cc
unwanted_is_none (Some copy) heard own number is = elim (bool_cases (heard || (own && is_fresh copy))) [
  | inl yes_flush ↦ (let no_issue : Flush ≡ Issue number = sym (if_true (heard || (own && is_fresh copy)) Flush Leave yes_flush) ∙ is in cc)
  | inr old ↦ (let no_issue : Leave ≡ Issue number = sym (if_false (heard || (own && is_fresh copy)) Flush Leave old) ∙ is in cc)
]

wanted_tells : (w : WantedValue) (copy : Option Entry) (heard waited : Bool) (kept number : ℤ) → wanted_action w copy heard waited kept ≡ Issue number → number ≡ kept +ℤ pos 1
wanted_tells w copy heard waited kept number is = elim (bool_cases (heard || (not waited && is_due w copy))) [
  | inl due ↦ next_tells copy kept number (sym (if_true (heard || (not waited && is_due w copy)) (next_action copy kept) Leave due) ∙ is)
  | inr rests ↦ absurd (let no_issue : Leave ≡ Issue number = sym (if_false (heard || (not waited && is_due w copy)) (next_action copy kept) Leave rests) ∙ is in cc)
]

tells : (o : Option WantedValue) (copy : Option Entry) (heard own waited : Bool) (kept number : ℤ) → own_action o copy heard own waited kept ≡ Issue number → IsNextIssue o kept number
unfolding own_action
tells None copy heard own waited kept number is = absurd (unwanted_is_none copy heard own number is)
tells (Some w) copy heard own waited kept number is = record { value = w; is_wanted = refl; next = wanted_tells w copy heard waited kept number is }

pub issue_tells : (s : AreaValue) (key : LsaKey) (number : ℤ) → action_of s key ≡ Issue number → IsNextIssue (wanted_of (wants s) key) (kept_number s key) number
unfolding action_of
issue_tells s key number is = tells (wanted_of (wants s) key) (database_entry s key) (among s.heard key) (is_own s.router key) (waits s.tick s.numbering key) (kept_number s key) number is

pub next_is_newer : (new copy : LsaHeader) (kept : ℤ) → copy.number ≤ℤ kept → new.number ≡ kept +ℤ pos 1 → recency new copy ≡ Newer
next_is_newer new copy kept below next =
    let less : copy.number <ℤ new.number = omega (arith, ints) in
    let yes_less : int_lt copy.number new.number ≡ true = grind (arith, ints) in
    if_true (int_lt copy.number new.number) Newer _ yes_less

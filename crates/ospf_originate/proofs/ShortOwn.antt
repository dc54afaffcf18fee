-- What is issued is short, and so the LSAs of the database stay.
use Rattle.std.proofs.Common.{◌≡◌, ◌≢◌, ◌≤◌, ℕ, ℤ, pos, List, [], ◌∷◌, Option, None, Some, length, sym, ap, subst, arith}
use Rattle.std.proofs.lemmas.Int.{ints}
use Rattle.ospf_base.specs.Constants.{largest_lsa}
use Rattle.ospf_base.specs.declared.ids.LsaKey.{LsaKey}
use Rattle.ospf_lsa.specs.Lsa.{IsLsa}
use Rattle.ospf_lsa.specs.Value.{HasAll, IsMade, LsaValue, unused_number}
use Rattle.ospf_lsa.specs.declared.fault.LsaFault.TheVariants as fault
use Rattle.ospf_area.specs.Laws.{AreShort}
use Rattle.ospf_area.specs.Outputs.{OutputsValue}
use Rattle.ospf_area.specs.State.{AreaValue}
use Rattle.ospf_area.specs.Updates.Laws.{IsShortLsa}
use Rattle.ospf_area.proofs.Updates.ShortLemmas.{flush_short, store_short}
use Rattle.ospf_originate.specs.Wants.Made.{CanBeMade, CanBeMadeIf, Needs, lsa_value}
use Rattle.ospf_originate.specs.Wants.Wanted.{WantedValue, wanted_of}
use Rattle.ospf_originate.specs.Wants.Wanted.WantedValue.{RouterLsa, NetworkLsa}
use Rattle.ospf_originate.proofs.Wants.MakeLemmas.{found_made, wanted_made}
use Rattle.ospf_originate.specs.Sound.{AreSetUp, max_stubs}
use Rattle.ospf_originate.specs.Steps.{Acts, Issues, OwnLsas, wants}
use Rattle.ospf_originate.proofs.Words.{ActsInTurn, IssuesIf}
use Rattle.ospf_originate.specs.declared.action.DueAction.{DueAction}
use Rattle.ospf_originate.specs.declared.action.OwnAction.{OwnAction}
use Rattle.ospf_originate.specs.declared.action.OwnAction.TheVariants.{Leave, Flush, Issue}

same : (s t : AreaValue) → t.database ≡ s.database → AreShort s.database → AreShort t.database
same s t is short = subst AreShort (sym is) short

-- its length field is that of the value
made_short : (v : LsaValue) (lsa : List ℕ) → IsLsa lsa → IsMade v lsa → v.header.length ≤ largest_lsa → IsShortLsa lsa
made_short v lsa is_lsa made short =
    let field = ap (λ (x : LsaValue). x.header.length) made.read in
    let fits = is_lsa fault.Length in
    omega (arith, field, fits, short)

needed_short : (number n : ℤ) (w : WantedValue) (lsa : List ℕ) → HasAll (Needs n w) → IsLsa lsa → IsMade (lsa_value number w) lsa → IsShortLsa lsa
needed_short number n (RouterLsa router links) lsa needs is_lsa made = made_short (lsa_value number (RouterLsa router links)) lsa is_lsa made (needs fault.Length)
needed_short number n (NetworkLsa id router mask routers) lsa needs is_lsa made =
    made_short (lsa_value number (NetworkLsa id router mask routers)) lsa is_lsa made (needs fault.Length)

zero_is_used : pos 0 ≢ unused_number
zero_is_used e = absurd (omega (arith, ints, e))

pub own_short : (w : WantedValue) (number : ℤ) (lsa : List ℕ) → CanBeMade w → IsLsa lsa → IsMade (lsa_value number w) lsa → IsShortLsa lsa
own_short w number lsa can is_lsa made = needed_short number (pos 0) w lsa (can (pos 0) zero_is_used) is_lsa made

issue_short : (w : WantedValue) (number : ℤ) (s : AreaValue) (o o' : OutputsValue) (s' : AreaValue) → Issues w number s o o' s' → HasAll (Needs (pos 0) w) → AreShort s.database → AreShort s'.database
issue_short w number s o o' s' is needs short =
    same is.stored s' (ap (λ (x : AreaValue). x.database) is.state)
    (store_short is.lsa None s is.stored is.stores (needed_short number (pos 0) w is.lsa needs is.is_lsa is.made) short)

pub issued_short : (w : WantedValue) (number : ℤ) (s : AreaValue) (o o' : OutputsValue) (s' : AreaValue) → Issues w number s o o' s' → CanBeMade w → AreShort s.database → AreShort s'.database
issued_short w number s o o' s' is can short = issue_short w number s o o' s' is (can (pos 0) zero_is_used) short

if_short : (w : Option WantedValue) (number : ℤ) (s : AreaValue) (o o' : OutputsValue) (s' : AreaValue) → IssuesIf w number s o o' s' → CanBeMadeIf (pos 0) w → AreShort s.database → AreShort s'.database
if_short None number s o o' s' is needs short = same s s' (ap (λ (x : AreaValue). x.database) is.state) short
if_short (Some w) number s o o' s' is needs short =
    same is.mid s' (ap (λ (x : AreaValue). x.database) is.turned) (issue_short w number s o is.mid_out is.mid is.issues needs short)

act_short : (a : OwnAction) (ws : List WantedValue) (key : LsaKey) (s : AreaValue) (o o' : OutputsValue) (s' : AreaValue) → Acts a ws key s o o' s' → CanBeMadeIf (pos 0) (wanted_of ws key)
    → AreShort s.database → AreShort s'.database
act_short Leave ws key s o o' s' is needs short = same s s' (ap (λ (x : AreaValue). x.database) is.state) short
act_short Flush ws key s o o' s' is needs short = flush_short key s o o' s' is short
act_short (Issue number) ws key s o o' s' is needs short = if_short (wanted_of ws key) number s o o' s' is needs short

acts_short : (ws : List WantedValue) → ((key : LsaKey) → CanBeMadeIf (pos 0) (wanted_of ws key)) → (ds : List DueAction) (s : AreaValue) (o o' : OutputsValue) (s' : AreaValue) → ActsInTurn ws ds s o o' s'
    → AreShort s.database → AreShort s'.database
acts_short ws needs [] s o o' s' is short = same s s' (ap (λ (x : AreaValue). x.database) is.state) short
acts_short ws needs (d ∷ ds) s o o' s' (mid, mid_out, first, others) short =
    acts_short ws needs ds mid mid_out o' s' others (act_short d.action ws d.key s o mid_out mid first (needs d.key) short)

pub ended_short : (s : AreaValue) (o o' : OutputsValue) (s' : AreaValue) → OwnLsas s o o' s' → AreSetUp s.links → length s.stubs ≤ max_stubs → AreShort s.database → AreShort s'.database
ended_short s o o' s' is up few short =
    let needs : (key : LsaKey) → CanBeMadeIf (pos 0) (wanted_of (wants s) key) = λ key. found_made (wants s) key (pos 0) (wanted_made s.stub_router s.router s.links s.stubs up few) zero_is_used in
    same is.mid s' (ap (λ (x : AreaValue). x.database) is.answered) (acts_short (wants s) needs is.due s o o' is.mid is.each short)

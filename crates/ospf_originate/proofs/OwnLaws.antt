-- What an issue does to the numbers, and what own LSAs keep.
use Rattle.std.proofs.Common.{◌≡◌, ◌&&◌, ◌||◌, ℕ, ℤ, Bool, true, false, List, [], ◌∷◌, Option, None, Some, is_some, refl, sym, ap, subst, ◌∙◌, if◌then◌else◌}
use Rattle.std.specs.Int.{int_max}
use Rattle.ospf_base.specs.Keys.{same_key}
use Rattle.ospf_base.specs.declared.ids.LsaKey.{LsaKey}
use Rattle.ospf_lsa.specs.Header.{header_of}
use Rattle.ospf_lsa.specs.Lsa.{key_of}
use Rattle.ospf_area.proofs.NumberLemmas.{own_counted}
use Rattle.ospf_area.specs.Numbers.{counts, is_own}
use Rattle.ospf_area.specs.Outputs.{OutputsValue}
use Rattle.ospf_area.specs.State.{AreaValue, kept_number, numbering_of}
use Rattle.ospf_area.proofs.Words.{kept_in, counted}
use Rattle.ospf_area.specs.declared.state.Numbering.{Numbering}
use Rattle.ospf_area.specs.Updates.Aging.{turned_area}
use Rattle.ospf_originate.specs.Numbers.{issued}
use Rattle.ospf_originate.specs.Sound.{IsSound}
use Rattle.ospf_originate.specs.Steps.{Acts, Issues, OwnLsas, wants}
use Rattle.ospf_originate.proofs.Words.{ActsInTurn, IssuesIf, issued_at_in}
use Rattle.ospf_originate.specs.Wants.Wanted.{WantedValue, wanted_key, wanted_of}
use Rattle.ospf_originate.specs.declared.action.DueAction.{DueAction}
use Rattle.ospf_originate.specs.declared.action.OwnAction.{OwnAction}
use Rattle.ospf_originate.specs.declared.action.OwnAction.TheVariants.{Leave, Flush, Issue}
use Rattle.ospf_originate.proofs.KeepLemmas.{if_true, made_key, made_number}
use Rattle.ospf_originate.proofs.NumberLemmas.{counted_at, counted_some, issued_at, issued_kept, issued_some}
use Rattle.ospf_originate.proofs.SoundLemmas.{Numbers, numbers_of, sound_of}
use Rattle.ospf_originate.proofs.StaySound.{answered_sound, flush_sound, store_sound, turned_sound}

module _ (w : WantedValue) (number : ℤ) (s : AreaValue) (o o' : OutputsValue) (s' : AreaValue) (is : Issues w number s o o' s') where
  key_is : key_of is.lsa ≡ wanted_key w
  key_is = made_key number w is.lsa is.made

  number_is : (header_of is.lsa).number ≡ number
  number_is = made_number number w is.lsa is.made

  -- the numbers once it is stored
  counts_is : is.stored.numbering ≡ counts (wanted_key w) number s
  counts_is =
      ap (λ (x : AreaValue). x.numbering) is.stores.rest ∙ ap (λ (k : LsaKey). counts k (header_of is.lsa).number s) key_is
      ∙ ap (λ (n : ℤ). counts (wanted_key w) n s) number_is

  numbering_is : s'.numbering ≡ issued (wanted_key w) s.tick (counts (wanted_key w) number s)
  numbering_is = ap (λ (x : AreaValue). x.numbering) is.state ∙ ap (λ (ns : List Numbering). issued (wanted_key w) s.tick ns) counts_is

  floor_is : s'.floor ≡ s.floor
  floor_is = ap (λ (x : AreaValue). x.floor) is.state ∙ ap (λ (x : AreaValue). x.floor) is.stores.rest

  pub issue_kept : (key : LsaKey) → kept_number s' key ≡ (if same_key (wanted_key w) key && is_own s.router key then int_max (kept_number s key) number else kept_number s key)
  issue_kept key =
      ap (λ (f : ℤ). kept_in f (numbering_of s'.numbering key)) floor_is ∙ ap (λ (ns : List Numbering). kept_in s.floor (numbering_of ns key)) numbering_is
      ∙ issued_kept s.floor (wanted_key w) s.tick (counts (wanted_key w) number s) key
      ∙ own_counted s.router (wanted_key w) key number s.floor s.numbering

  pub issue_waits : is_own s.router (wanted_key w) ≡ true → (key : LsaKey) → issued_at_in (numbering_of s'.numbering key) ≡ (if same_key (wanted_key w) key then Some s.tick else issued_at_in (numbering_of s.numbering key))
  issue_waits own key =
      let ns = counted (wanted_key w) number s.floor s.numbering in
      let counts_own : counts (wanted_key w) number s ≡ ns = if_true (is_own s.router (wanted_key w)) ns s.numbering own in
      ap (λ (m : List Numbering). issued_at_in (numbering_of m key)) (numbering_is ∙ ap (λ (m : List Numbering). issued (wanted_key w) s.tick m) counts_own)
      ∙ issued_at (wanted_key w) s.tick ns key
      ∙ ap (λ (b : Bool). if same_key (wanted_key w) key && b then Some s.tick else issued_at_in (numbering_of ns key)) (counted_some (wanted_key w) number s.floor s.numbering key)
      ∙ ap (λ (i : Option ℕ). if same_key (wanted_key w) key && (is_some (numbering_of s.numbering key) || same_key (wanted_key w) key) then Some s.tick else i) (counted_at (wanted_key w) number s.floor s.numbering key)
      ∙ by_test (same_key (wanted_key w) key) (is_some (numbering_of s.numbering key))
    where
      by_test : (a b : Bool) → (if a && (b || a) then Some s.tick else issued_at_in (numbering_of s.numbering key)) ≡ (if a then Some s.tick else issued_at_in (numbering_of s.numbering key))
      by_test true true = refl
      by_test true false = refl
      by_test false b = refl

  pub issue_sound : IsSound s → IsSound s'
  issue_sound sound =
      let mid = is.stored in
      let stored = store_sound is.lsa None s mid is.stores sound in
      let old = numbers_of mid stored in
      let now : AreaValue = record mid { numbering = issued (wanted_key w) s.tick mid.numbering } in
      let numbers : Numbers now.router now.database now.numbering now.floor now.max_seq = record {
        numbered = λ key c at own. issued_some (wanted_key w) s.tick mid.numbering key ∙ old.numbered key c at own;
        counted = λ key c at own. rw (issued_kept mid.floor (wanted_key w) s.tick mid.numbering key) (old.counted key c at own);
        max_seq = λ key. rw (issued_kept mid.floor (wanted_key w) s.tick mid.numbering key) (old.max_seq key);
      } in
      subst (λ (x : AreaValue). IsSound x) (sym is.state) (sound_of now stored.links stored.stubs numbers)

along : (s s' : AreaValue) → s' ≡ s → IsSound s → IsSound s'
along s s' is sound = subst (λ (x : AreaValue). IsSound x) (sym is) sound

issue_if_sound : (w : Option WantedValue) (number : ℤ) (s : AreaValue) (o o' : OutputsValue) (s' : AreaValue) → IssuesIf w number s o o' s' → IsSound s → IsSound s'
issue_if_sound None number s o o' s' is sound = along s s' is.state sound
issue_if_sound (Some w) number s o o' s' is sound = along (turned_area is.mid) s' is.turned (turned_sound is.mid (issue_sound w number s o is.mid_out is.mid is.issues sound))

act_sound : (a : OwnAction) (ws : List WantedValue) (key : LsaKey) (s : AreaValue) (o o' : OutputsValue) (s' : AreaValue) → Acts a ws key s o o' s' → IsSound s → IsSound s'
act_sound Leave ws key s o o' s' is sound = along s s' is.state sound
act_sound Flush ws key s o o' s' is sound = flush_sound key s o o' s' is sound
act_sound (Issue number) ws key s o o' s' is sound = issue_if_sound (wanted_of ws key) number s o o' s' is sound

acts_sound : (ws : List WantedValue) (ds : List DueAction) (s : AreaValue) (o o' : OutputsValue) (s' : AreaValue) → ActsInTurn ws ds s o o' s' → IsSound s → IsSound s'
acts_sound ws [] s o o' s' is sound = along s s' is.state sound
acts_sound ws (d ∷ ds) s o o' s' (mid, mid_out, first, others) sound = acts_sound ws ds mid mid_out o' s' others (act_sound d.action ws d.key s o mid_out mid first sound)

pub own_sound : (s : AreaValue) (o o' : OutputsValue) (s' : AreaValue) → OwnLsas s o o' s' → IsSound s → IsSound s'
own_sound s o o' s' is sound = along (record is.mid { heard = [] }) s' is.answered (answered_sound is.mid (acts_sound (wants s) is.due s o o' is.mid is.each sound))

-- from what the calls of a step do
pub ends_sound : (ws : List WantedValue) (ds : List DueAction) (s : AreaValue) (o o' : OutputsValue) (mid s' : AreaValue) → ActsInTurn ws ds s o o' mid → s' ≡ record mid { heard = [] } → IsSound s → IsSound s'
ends_sound ws ds s o o' mid s' acts forgets sound = along (record mid { heard = [] }) s' forgets (answered_sound mid (acts_sound ws ds s o o' mid acts sound))

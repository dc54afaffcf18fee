-- The LSAs of a database stay short.
use Rattle.std.proofs.Common.{◌≡◌, ◌+◌, ◌≤◌, ℕ, Bool, true, false, if◌then◌else◌, Option, None, Some, List, length, refl, sym, ap, subst, ◌∙◌}
use Rattle.std.specs.Option.{option_map}
use Rattle.std.proofs.lemmas.Option.{none-some, same_Some}
use Rattle.ospf_base.specs.Constants.{largest_lsa, max_age}
use Rattle.ospf_base.specs.Keys.{same_key}
use Rattle.ospf_base.specs.declared.ids.LsaKey.{LsaKey}
use Rattle.ospf_lsdb.specs.Database.{Ages, Entry, Held, Installs, Puts, expired, held_of, is_expired, is_fresh, is_told, key_in, older, removed}
use Rattle.ospf_area.specs.Laws.{AreShort, IsShort}

short_puts : (key : LsaKey) (o : Option Held) (before after : List Held) → Puts key o before after → ((h : Held) → o ≡ Some h → IsShort h) → AreShort before → AreShort after
short_puts key o before after puts new old k h is = by_test (same_key key k) (puts k)
  where
    by_test : (b : Bool) → held_of after k ≡ (if b then o else held_of before k) → IsShort h
    by_test true e = new h (sym e ∙ is)
    by_test false e = old k h (sym e ∙ is)

short_changed : (f : Held → Held) → ((h : Held) → (f h).entry.contents ≡ h.entry.contents) → (o : Option Held) → ((h : Held) → o ≡ Some h → IsShort h)
    → (h : Held) → option_map f o ≡ Some h → IsShort h
short_changed f same None short h e = absurd (none-some h e)
short_changed f same (Some x) short h e =
    let here : (f x).entry.contents ≡ h.entry.contents = ap (λ (y : Held). y.entry.contents) (same_Some (f x) h e) in
    subst (λ (c : List ℕ). 2 + length c ≤ largest_lsa) (sym (same x) ∙ here) (short x refl)

pub older_contents : (h : Held) → (older h).entry.contents ≡ h.entry.contents
unfolding older
older_contents h = by_test (is_fresh h.entry)
  where
    by_test : (b : Bool) → (if b then record { entry = record h.entry { age = h.entry.age + 1 }; reached = is_told (h.entry.age + 1) } else record h { reached = false }).entry.contents ≡ h.entry.contents
    by_test true = refl
    by_test false = refl

pub expired_contents : (h : Held) → (expired h).entry.contents ≡ h.entry.contents
unfolding expired
expired_contents h = by_test (is_fresh h.entry)
  where
    by_test : (b : Bool) → (if b then record { entry = record h.entry { age = max_age }; reached = false } else h).entry.contents ≡ h.entry.contents
    by_test true = refl
    by_test false = refl

pub removed_was : (o : Option Held) (h : Held) → removed o ≡ Some h → o ≡ Some h
unfolding removed
removed_was None h e = e
removed_was (Some x) h e = by_test (is_expired x) e
  where
    by_test : (b : Bool) → (if b then None else Some x) ≡ Some h → Some x ≡ Some h
    by_test true e' = absurd (none-some h e')
    by_test false e' = e'

pub short_installed : (e : Entry) (before after : List Held) → Installs e before after → 2 + length e.contents ≤ largest_lsa → AreShort before → AreShort after
short_installed e before after puts fits old =
    short_puts (key_in e.contents) (Some (record { entry = e; reached = false })) before after puts
    (λ h is. subst (λ (c : List ℕ). 2 + length c ≤ largest_lsa) (ap (λ (y : Held). y.entry.contents) (same_Some (record { entry = e; reached = false }) h is)) fits) old

pub short_aged : (before after : List Held) → Ages before after → AreShort before → AreShort after
short_aged before after ages old k h is = short_changed older older_contents (held_of before k) (old k) h (sym (ages k) ∙ is)

pub short_expired : (key : LsaKey) (before after : List Held) → Puts key (option_map expired (held_of before key)) before after → AreShort before → AreShort after
short_expired key before after puts old =
    short_puts key (option_map expired (held_of before key)) before after puts (short_changed expired expired_contents (held_of before key) (old key)) old

pub short_removed : (key : LsaKey) (before after : List Held) → Puts key (removed (held_of before key)) before after → AreShort before → AreShort after
short_removed key before after puts old =
    short_puts key (removed (held_of before key)) before after puts (λ h is. old key h (removed_was (held_of before key) h is)) old

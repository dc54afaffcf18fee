-- Events by chance, some of them at a time.
use Rattle.std.proofs.Common.{◌≡◌, sym, subst, refl, ◌+◌, ◌-◌, ◌≤◌, ℕ, zero, suc, Ok, Err, arith}
use Rattle.ospf_world.specs.Draws.{drawn_past, words_from}
use Rattle.ospf_base.specs.declared.event.event.WorldFault.{WorldFault}
use Rattle.ospf_commands.specs.Simulations.{Answer}
use Rattle.ospf_world.specs.Random.{GoesOnWith, IsRandom}
use Rattle.ospf_world.specs.Worlds.{WorldValue}
use Rattle.rand_pcg.specs.Lcg.{Lcg}

-- some, and then the rest
in_two : (part rest : ℕ) (g : Lcg) (w mid w' : WorldValue) (answer : Answer) → IsRandom part g w (Ok tt) mid → IsRandom rest (drawn_past part g) mid answer w'
    → IsRandom (part + rest) g w answer w'
in_two zero rest g w mid w' answer first more =
    let same : mid ≡ w = first.0 in
    subst (λ (n : ℕ). IsRandom n g w answer w') (omega arith) (subst (λ (x : WorldValue). IsRandom rest g x answer w') same more)
in_two (suc part) rest g w mid w' answer (GoesOnWith.Further next once first) more =
    let all : IsRandom (suc (part + rest)) g w answer w' = GoesOnWith.Further next once (in_two part rest (words_from g).1 next mid w' answer first more) in
    let sum : suc (part + rest) ≡ suc part + rest = omega arith in
    subst (λ (n : ℕ). IsRandom n g w answer w') sum all
in_two (suc part) rest g w mid w' answer (GoesOnWith.Ended f once is) more = absurd (cc)

-- some, at which memory runs out
refused : (part rest : ℕ) (g : Lcg) (w mid : WorldValue) (fault : WorldFault) → IsRandom part g w (Err fault) mid → IsRandom (part + rest) g w (Err fault) mid
refused zero rest g w mid fault first = absurd (let no : Err fault ≡ Ok tt = first.1 in cc)
refused (suc part) rest g w mid fault (GoesOnWith.Further next once first) =
    let all : IsRandom (suc (part + rest)) g w (Err fault) mid = GoesOnWith.Further next once (refused part rest (words_from g).1 next mid fault first) in
    let sum : suc (part + rest) ≡ suc part + rest = omega arith in
    subst (λ (n : ℕ). IsRandom n g w (Err fault) mid) sum all
refused (suc part) rest g w mid fault (GoesOnWith.Ended f once is) =
    let all : IsRandom (suc (part + rest)) g w (Err fault) mid = GoesOnWith.Ended f once is in
    let sum : suc (part + rest) ≡ suc part + rest = omega arith in
    subst (λ (n : ℕ). IsRandom n g w (Err fault) mid) sum all

-- so many are left, and what they lead to all of them lead to
pub record LeadsOn (count gone : ℕ) (g g' : Lcg) (start now : WorldValue) : Type 0 where
  pub left : ℕ
  pub all : gone + left ≡ count
  pub leads : (answer : Answer) (w : WorldValue) → IsRandom left g' now answer w → IsRandom count g start answer w

pub leads_at_start : (count : ℕ) (g : Lcg) (start : WorldValue) → LeadsOn count 0 g g start start
leads_at_start count g start = record { left = count; all = omega arith; leads = λ answer w h. h }

pub leads_further : (count gone part : ℕ) (g g' g'' : Lcg) (start now mid : WorldValue) → gone + part ≤ count → LeadsOn count gone g g' start now
    → IsRandom part g' now (Ok tt) mid → g'' ≡ drawn_past part g' → LeadsOn count (gone + part) g g'' start mid
leads_further count gone part g g' g'' start now mid within led some drawn =
    let sum : gone + led.left ≡ count = led.all in
    let two : part + (led.left - part) ≡ led.left = omega (arith, sum, within) in
    record {
      left = led.left - part;
      all = omega (arith, sum, within);
      leads = λ answer w h.
          let rest : IsRandom (led.left - part) (drawn_past part g') mid answer w = subst (λ (x : Lcg). IsRandom (led.left - part) x mid answer w) drawn h in
          led.leads answer w (subst (λ (n : ℕ). IsRandom n g' now answer w) two (in_two part (led.left - part) g' now mid w answer some rest));
    }

pub leads_to_refusal : (count gone part : ℕ) (g g' : Lcg) (start now mid : WorldValue) (fault : WorldFault) → gone + part ≤ count → LeadsOn count gone g g' start now
    → IsRandom part g' now (Err fault) mid → IsRandom count g start (Err fault) mid
leads_to_refusal count gone part g g' start now mid fault within led some =
    let sum : gone + led.left ≡ count = led.all in
    let two : part + (led.left - part) ≡ led.left = omega (arith, sum, within) in
    led.leads (Err fault) mid (subst (λ (n : ℕ). IsRandom n g' now (Err fault) mid) two (refused part (led.left - part) g' now mid fault some))

pub leads_to_end : (count gone : ℕ) (g g' : Lcg) (start now : WorldValue) → count ≤ gone → LeadsOn count gone g g' start now → IsRandom count g start (Ok tt) now
leads_to_end count gone g g' start now ended led =
    let sum : gone + led.left ≡ count = led.all in
    let none : led.left ≡ 0 = omega (arith, sum, ended) in
    led.leads (Ok tt) now (subst (λ (n : ℕ). IsRandom n g' now (Ok tt) now) (sym none) (refl, refl))

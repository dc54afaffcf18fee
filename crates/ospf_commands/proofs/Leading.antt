-- Rounds and batches, one after another.
use Rattle.std.proofs.Common.{◌≡◌, sym, subst, refl, ◌+◌, ◌<◌, ◌≤◌, ℕ, zero, suc, Ok, Err, arith}
use Rattle.ospf_base.specs.declared.event.event.WorldFault.{WorldFault}
use Rattle.ospf_commands.specs.Rounds.{AreDone, no_more, one_more, refused_at}
use Rattle.ospf_commands.specs.Simulations.{Answer}
use Rattle.ospf_commands.specs.declared.simulation.Simulation.{Simulation}

-- what one of them comes to
abbrev pub Comes : Type 1
Comes = Simulation → Answer → Simulation → Type 0

-- so many are left, and what they lead to all of them lead to
pub record LeadsOn (One : Comes) (count gone : ℕ) (start now : Simulation) : Type 0 where
  pub left : ℕ
  pub all : gone + left ≡ count
  pub leads : (answer : Answer) (w : Simulation) → AreDone One left now answer w → AreDone One count start answer w

pub leads_at_start : (One : Comes) (count : ℕ) (start : Simulation) → LeadsOn One count 0 start start
leads_at_start One count start = record { left = count; all = omega arith; leads = λ answer w h. h }

one_is_left : (count gone left : ℕ) → gone + left ≡ count → gone < count → (more : ℕ) × (left ≡ suc more)
one_is_left count gone zero all within = absurd (omega arith)
one_is_left count gone (suc more) all within = (more, refl)

pub leads_further : (One : Comes) (count gone : ℕ) (start now mid : Simulation) → gone < count → LeadsOn One count gone start now → One now (Ok tt) mid
    → LeadsOn One count (gone + 1) start mid
leads_further One count gone start now mid within led one =
    let left = one_is_left count gone led.left led.all within in
    let same : led.left ≡ suc left.0 = left.1 in
    record {
      left = left.0;
      all = (let sum : gone + led.left ≡ count = led.all in omega arith);
      leads = λ answer w h. led.leads answer w (subst (λ n. AreDone One n now answer w) (sym same) (one_more one h));
    }

pub leads_to_refusal : (One : Comes) (count gone : ℕ) (start now mid : Simulation) (fault : WorldFault) → gone < count → LeadsOn One count gone start now
    → One now (Err fault) mid → AreDone One count start (Err fault) mid
leads_to_refusal One count gone start now mid fault within led one =
    let left = one_is_left count gone led.left led.all within in
    let same : led.left ≡ suc left.0 = left.1 in
    led.leads (Err fault) mid (subst (λ n. AreDone One n now (Err fault) mid) (sym same) (refused_at one))

pub leads_to_end : (One : Comes) (count gone : ℕ) (start now : Simulation) → count ≤ gone → LeadsOn One count gone start now → AreDone One count start (Ok tt) now
leads_to_end One count gone start now ended led =
    let sum : gone + led.left ≡ count = led.all in
    let none : led.left ≡ 0 = omega arith in
    led.leads (Ok tt) now (subst (λ n. AreDone One n now (Ok tt) now) (sym none) no_more)

-- Deliveries that are kept, one after another.
use Rattle.std.proofs.Common.{◌≡◌, ◌<◌, ◌≤◌, ◌+◌, ◌++◌, ℕ, Bool, true, false, if◌then◌else◌, List, [], ◌∷◌, drop, length, get_or, refl, sym, ap, ◌∙◌, append_assoc, append-nil}
use Rattle.rand_pcg.specs.Lcg.{Lcg}
use Rattle.rand_pcg.specs.Pcg.{pcg32}
use Rattle.ospf_base.specs.declared.event.event.WorldEvent.{WorldEvent}
use Rattle.ospf_commands.specs.Deliveries.Losses.{is_lost, kept_offer, kept_offers}
use Rattle.std.proofs.lemmas.List.{at_drop_all, at_drop_more}

-- what is kept so far, and then of the rest
abbrev pub KeepsTo : ℕ → List WorldEvent → Lcg → List WorldEvent → ℕ → Lcg → Type 0
KeepsTo percent offers g kept i g' =
    (kept ++ (kept_offers percent (drop i offers) g').0 ≡ (kept_offers percent offers g).0) × ((kept_offers percent (drop i offers) g').1 ≡ (kept_offers percent offers g).1)

either : (b : Bool) (offer : WorldEvent) (kept rest : List WorldEvent) → (kept ++ (if b then [] else offer ∷ [])) ++ rest ≡ kept ++ (if b then rest else offer ∷ rest)
either true offer kept rest = ap (λ (k : List WorldEvent). k ++ rest) (append-nil kept)
either false offer kept rest = append_assoc kept (offer ∷ []) rest

one : (percent : ℕ) (offer : WorldEvent) (offers : List WorldEvent) (g : Lcg) (kept : List WorldEvent) →
    ((kept ++ kept_offer percent (pcg32 g).0 offer []) ++ (kept_offers percent offers (pcg32 g).1).0 ≡ kept ++ (kept_offers percent (offer ∷ offers) g).0) × ((kept_offers percent offers (pcg32 g).1).1 ≡ (kept_offers percent (offer ∷ offers) g).1)
unfolding kept_offers
one percent offer offers g kept = (either (is_lost percent (pcg32 g).0) offer kept (kept_offers percent offers (pcg32 g).1).0, refl)

pub keeps_none : (percent : ℕ) (offers kept : List WorldEvent) (g : Lcg) → kept ≡ [] → KeepsTo percent offers g kept 0 g
keeps_none percent offers kept g none = (ap (λ (k : List WorldEvent). k ++ (kept_offers percent offers g).0) none, refl)

pub keeps_more : (percent i word : ℕ) (offers kept kept' : List WorldEvent) (d : WorldEvent) (g g' g'' : Lcg) → i < length offers → (word, g'') ≡ pcg32 g' → kept' ≡ kept ++ kept_offer percent word (get_or offers i d) [] → KeepsTo percent offers g kept i g' → KeepsTo percent offers g kept' (i + 1) g''
keeps_more percent i word offers kept kept' d g g' g'' within draws grows keeps =
    let offer = get_or offers i d in
    let word_is : word ≡ (pcg32 g').0 = ap (λ (p : ℕ × Lcg). p.0) draws in
    let next_is : g'' ≡ (pcg32 g').1 = ap (λ (p : ℕ × Lcg). p.1) draws in
    let rest = drop (i + 1) offers in
    let here : kept_offers percent (drop i offers) g' ≡ kept_offers percent (offer ∷ rest) g' =
    at_drop_more (λ (os : List WorldEvent). kept_offers percent os g') offers i d within in
    let step = one percent offer rest g' kept in
    let grown : kept' ≡ kept ++ kept_offer percent (pcg32 g').0 offer [] = grows ∙ ap (λ (w : ℕ). kept ++ kept_offer percent w offer []) word_is in (
      ap (λ (k : List WorldEvent). k ++ (kept_offers percent rest g'').0) grown
          ∙ ap (λ (h : Lcg). (kept ++ kept_offer percent (pcg32 g').0 offer []) ++ (kept_offers percent rest h).0) next_is
          ∙ step.0 ∙ ap (λ (p : List WorldEvent × Lcg). kept ++ p.0) (sym here) ∙ keeps.0,
      ap (λ (h : Lcg). (kept_offers percent rest h).1) next_is ∙ step.1 ∙ ap (λ (p : List WorldEvent × Lcg). p.1) (sym here) ∙ keeps.1,
    )

nothing : (percent : ℕ) (kept : List WorldEvent) (g : Lcg) → (kept ++ (kept_offers percent [] g).0 ≡ kept) × ((kept_offers percent [] g).1 ≡ g)
unfolding kept_offers
nothing percent kept g = (append-nil kept, refl)

pub keeps_all : (percent i : ℕ) (offers kept : List WorldEvent) (g g' : Lcg) → length offers ≤ i → KeepsTo percent offers g kept i g' → (kept, g') ≡ kept_offers percent offers g
keeps_all percent i offers kept g g' all keeps =
    let here : kept_offers percent (drop i offers) g' ≡ kept_offers percent [] g' = at_drop_all (λ (os : List WorldEvent). kept_offers percent os g') offers i all in
    let none = nothing percent kept g' in
    let kept_is : kept ≡ (kept_offers percent offers g).0 = sym none.0 ∙ ap (λ (p : List WorldEvent × Lcg). kept ++ p.0) (sym here) ∙ keeps.0 in
    let left_is : g' ≡ (kept_offers percent offers g).1 = sym none.1 ∙ ap (λ (p : List WorldEvent × Lcg). p.1) (sym here) ∙ keeps.1 in
    ap (λ (k : List WorldEvent). (k, g')) kept_is ∙ ap (λ (h : Lcg). ((kept_offers percent offers g).0, h)) left_is

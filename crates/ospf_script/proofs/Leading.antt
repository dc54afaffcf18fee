-- Values, read word by word.
use Rattle.std.proofs.Common.{◌≡◌, List, [], ◌∷◌, ◌++◌, append_assoc, append-nil, sym, subst, arith, length-append}
use Rattle.std.specs.List.{AllZip}
use Rattle.ospf_script.specs.Values.{AreManySpelled, AreSomeSpelled}
use Rattle.ospf_script.specs.Words.{Text}

-- the values found so far stand before those of the words that are left
pub record LeadsTo {A : Type 0} (P : Text → A → Type 0) (whole rest : List Text) (found : List A) : Type 0 where
  pub onto : (values : List A) → AllZip P rest values → AllZip P whole (found ++ values)
  pub from : AreSomeSpelled P whole → AreSomeSpelled P rest

pub leads_at_start : {A : Type 0} (P : Text → A → Type 0) (whole : List Text) → LeadsTo P whole whole []
leads_at_start P whole = record { onto = λ values h. h; from = λ some. some }

pub tail_values : {A : Type 0} (P : Text → A → Type 0) (word : Text) (ws : List Text) → AreSomeSpelled P (word ∷ ws) → AreSomeSpelled P ws
tail_values P word ws some = elim some.0 as (λ xs. AllZip P (word ∷ ws) xs → AreSomeSpelled P ws) [
  | [] ↦ λ h. absurd h
  | x ∷ xs ↦ λ h. (xs, h.1)
] some.1

pub leads_on : {A : Type 0} (P : Text → A → Type 0) (whole rest behind : List Text) (found : List A) (word : Text) (value : A) → LeadsTo P whole rest found
    → rest ≡ word ∷ behind → P word value → LeadsTo P whole behind (found ++ value ∷ [])
leads_on P whole rest behind found word value leads is spelled = record {
  onto = λ values h.
      let here : AllZip P rest (value ∷ values) = rw is (spelled, h) in
      subst (AllZip P whole) (sym (append_assoc found (value ∷ []) values)) (leads.onto (value ∷ values) here);
  from = λ some. tail_values P word behind (rw is at leads.from some);
}

pub leads_to_end : {A : Type 0} (P : Text → A → Type 0) (whole rest : List Text) (found : List A) → LeadsTo P whole rest found → rest ≡ [] → AllZip P whole found
leads_to_end P whole rest found leads is =
    let none : AllZip P rest [] = rw is tt in
    subst (AllZip P whole) (append-nil found) (leads.onto [] none)

-- where a value and others follow, they are many
pub leads_to_many : {A : Type 0} (P : Text → A → Type 0) (whole rest behind : List Text) (found : List A) (word : Text) (value : A) → LeadsTo P whole rest found
    → rest ≡ word ∷ behind → P word value → AreSomeSpelled P behind → AreManySpelled P whole
leads_to_many P whole rest behind found word value leads is spelled some =
    let here : AllZip P rest (value ∷ some.0) = rw is (spelled, some.1) in
    (found ++ value ∷ some.0, leads.onto (value ∷ some.0) here, omega (arith, length-append found (value ∷ some.0)))

-- How it ends where all is printed, and what is reported.
use Rattle.std.proofs.Common.{◌≡◌, ◌⊎◌, ◌↔◌, ℕ, Bool, true, false, IsTrue, List, [], Option, None, Some, IfSome, refl, inl, inr, string_bytes}
use Rattle.ospf_files.specs.declared.report.Report.{Report}
use Rattle.ospf_table.proofs.Lines.{map_some}
use Rattle.ospf_table.specs.Report.{Shows}
use Rattle.ospf_harm.specs.Asked.{IsEndBy, IsAllPrinted, IsRebuiltFor, end_by}
use Rattle.ospf_harm.specs.declared.input.Unread.{Unread}
use Rattle.ospf_harm.specs.declared.input.Unread.TheVariants as unread
use Rattle.ospf_harm.specs.Input.{IsAreaRefusal, IsAreaUnread, of_line, of_router}
use Rattle.ospf_harm.specs.Router.{IsRouterReport, refused}
use Rattle.ospf_harm.specs.declared.asked.RouterFailures.{RouterFailures}

-- ---- how it ends

-- how it ends
pub whole_end : (strict cut listed : Bool) → IsAllPrinted (end_by strict cut listed)
whole_end true true listed = inr refl
whole_end true false true = inl refl
whole_end true false false = inr refl
whole_end false cut listed = inl refl

pub end_is : (P Q : Type 0) (strict cut listed : Bool) → (IsTrue cut ↔ P) → (IsTrue listed ↔ Q) → IsEndBy strict (P ⊎ (Q → ⊥)) (end_by strict cut listed)
end_is P Q true true listed cuts is = (refl, inl (cuts.0 refl))
end_is P Q true false true cuts is = (refl, λ e unmet. elim unmet [ inl p ↦ (let t : false ≡ true = cuts.1 p in cc) | inr none ↦ none (is.0 refl) ])
end_is P Q true false false cuts is = (refl, inr (λ q. let t : false ≡ true = is.1 q in cc))
end_is P Q false cut listed cuts is = (refl, λ e unmet. cc)

-- ---- what is reported

pub both_some : {A : Type 0} (o : Option A) (P Q R : A → Type 0) → ((a : A) → P a → Q a → R a) → IfSome o P → IfSome o Q → IfSome o R
both_some None P Q R f p q = p
both_some (Some a) P Q R f p q = f a p q

pub refusal_weaker : (P Q : Type 0) (input text : List ℕ) → (P → Q) → IsAreaRefusal P input text → IsAreaRefusal Q input text
refusal_weaker P Q input text k (of_line number fault not_read is) = of_line number fault not_read is
refusal_weaker P Q input text k (of_router listing router reads rebuilds first is) = of_router listing router reads (k rebuilds) first is

pub unread_weaker : (P Q : Type 0) (input : Option (List ℕ)) (why : Unread) → (P → Q) → IsAreaUnread P input why → IsAreaUnread Q input why
unread_weaker P Q input (unread.Refused text) k is =
    map_some input (λ bytes. IsAreaRefusal P bytes (string_bytes text)) (λ bytes. IsAreaRefusal Q bytes (string_bytes text))
    (λ bytes r. refusal_weaker P Q bytes (string_bytes text) k r) is
unread_weaker P Q input (unread.Failure f) k is = is

pub refusal_reported : (P : Type 0) (asked : RouterFailures) (input : Option (List ℕ)) (text : List ℕ) (report : Report) → (P → IsRebuiltFor asked)
    → IfSome input (λ bytes. IsAreaRefusal P bytes text) → Shows report text [] 3 → IfSome input (λ bytes. IsRouterReport asked bytes report)
refusal_reported P asked input text report k is shows =
    map_some input (λ bytes. IsAreaRefusal P bytes text) (λ bytes. IsRouterReport asked bytes report)
    (λ bytes r. refused text (refusal_weaker P (IsRebuiltFor asked) bytes text k r) shows) is

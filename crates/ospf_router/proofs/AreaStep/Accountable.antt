-- Parts of a step that account for all, and keep what holds of each state.
use Rattle.std.proofs.Common.{◌≡◌, ◌++◌, List, [], Option, get_or, sym, ap, subst, ◌∙◌, append-nil, true, ℕ}
use Rattle.std.proofs.lemmas.Option.{same_Some}
use Rattle.ospf_packet.specs.Meaning.{Meaning}
use Rattle.ospf_area.specs.Outputs.{OutputsValue, SentValue, no_outputs, then_outputs, AreReadAsSent}
use Rattle.ospf_area.proofs.Words.{IsReadAsSent, state_of}
use Rattle.ospf_area.specs.State.{AreaValue}
use Rattle.ospf_base.specs.declared.ids.Instance.{Instance}
use Rattle.ospf_base.specs.declared.ids.LsaKey.{LsaKey}
use Rattle.ospf_area.specs.Acting.{Becomes}
use Rattle.ospf_router.specs.AreaStep.Packets.{Received}
use Rattle.ospf_router.specs.AreaStep.Words.{IsSoundState}
use Rattle.ospf_router.specs.AreaStep.Accounts.{Accounts, NoneEntersExchange, Sends}
use Rattle.ospf_router.proofs.AreaStep.Compose.{Accounts-then}
use Rattle.ospf_router.proofs.AreaStep.QuietAccounts.{Adjusts-accounts, Adjusts-sound, Unchanged-adjusts, Adjusts}
use Rattle.std.proofs.lemmas.List.Elements.{All-contains, Contains-append_left, Contains-append_right, Contains-get_or}
use Rattle.std.specs.List.{Contains}
use Rattle.ospf_neighbour.specs.Machine.{is_exchanging}

pub record IsAccountable (heard : Option Received) (before : AreaValue) (out : OutputsValue) (after : AreaValue) : Type 0 where
  pub accounts : IsSoundState before → Accounts heard before out after
  pub sound : IsSoundState before → IsSoundState after
  pub none_enters : NoneEntersExchange before after
  pub none_ended : out.ended ≡ []

pub Adjusts-accountable : (heard : Option Received) (before : AreaValue) (out : OutputsValue) (after : AreaValue) → Adjusts heard before out after → NoneEntersExchange before after → out.ended ≡ [] → IsAccountable heard before out after
Adjusts-accountable heard before out after a none_enters none_ended = record {
  accounts = λ sound. Adjusts-accounts heard before out after a;
  sound = Adjusts-sound heard before out after a;
  none_enters = none_enters;
  none_ended = none_ended;
}

pub Unchanged-accountable : (heard : Option Received) (before : AreaValue) (out : OutputsValue) (after : AreaValue) → Becomes before no_outputs out after → IsAccountable heard before out after
Unchanged-accountable heard before out after u =
    Adjusts-accountable heard before out after (Unchanged-adjusts heard before out after u)
    (λ l q up. subst (λ s. is_exchanging (state_of s l q) ≡ true) u.state up)
    (ap (λ o. o.ended) u.outputs)

pub both-accountable : (heard : Option Received) (s t u : AreaValue) (a b : OutputsValue) → IsAccountable heard s a t → IsAccountable heard t b u → IsAccountable heard s (then_outputs a b) u
both-accountable heard s t u a b first next = record {
  accounts = λ sound. Accounts-then heard s t u a b (first.accounts sound) (next.accounts (first.sound sound)) next.none_enters first.none_ended;
  sound = λ sound. next.sound (first.sound sound);
  none_enters = λ l q up. first.none_enters l q (next.none_enters l q up);
  none_ended = ap (λ keys. keys ++ b.ended) first.none_ended ∙ next.none_ended;
}

outputs_from : List SentValue → List Instance → List (List ℕ) → List LsaKey → OutputsValue
outputs_from sent taken issued ended = record { sent = sent; taken = taken; issued = issued; ended = ended }

pub then_nothing : (o : OutputsValue) → then_outputs o no_outputs ≡ o
unfolding outputs_from
then_nothing o = ap (λ xs. outputs_from xs (o.taken ++ []) (o.issued ++ []) (o.ended ++ [])) (append-nil o.sent) ∙ (ap (λ xs. outputs_from o.sent xs (o.issued ++ []) (o.ended ++ [])) (append-nil o.taken) ∙ (ap (λ xs. outputs_from o.sent o.taken xs (o.ended ++ [])) (append-nil o.issued) ∙ ap (λ xs. outputs_from o.sent o.taken o.issued xs) (append-nil o.ended)))

-- a packet that is sent is that of its datagram
pub sent_packet : (out : OutputsValue) (p : Meaning) → AreReadAsSent out.sent → (s : Sends out p) → s.datagram.packet ≡ p
sent_packet out p read s = same_Some s.datagram.packet p (sym (All-contains IsReadAsSent out.sent s.datagram read s.sent) ∙ s.reads)

pub each_read : (ds : List SentValue) → ((d : SentValue) → Contains ds d → IsReadAsSent d) → AreReadAsSent ds
each_read ds each k d within = each (get_or ds k d) (Contains-get_or ds k d within)

pub AreRead-left : (a b : OutputsValue) → AreReadAsSent (then_outputs a b).sent → AreReadAsSent a.sent
AreRead-left a b read = each_read a.sent (λ d c. All-contains IsReadAsSent (a.sent ++ b.sent) d read (Contains-append_left a.sent b.sent d c))

pub AreRead-right : (a b : OutputsValue) → AreReadAsSent (then_outputs a b).sent → AreReadAsSent b.sent
AreRead-right a b read = each_read b.sent (λ d c. All-contains IsReadAsSent (a.sent ++ b.sent) d read (Contains-append_right a.sent b.sent d c))

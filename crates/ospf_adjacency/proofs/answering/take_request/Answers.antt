use Rattle.std.proofs.Common.{◌≡◌, ◌∙◌, Bool, List, true, ap, sym, refl, if◌then◌else◌}
use Rattle.ospf_base.specs.declared.ids.LsaKey.{LsaKey}
use Rattle.ospf_exchange.specs.Requests.{all_held}
use Rattle.ospf_adjacency.specs.Descriptions.{event_turn}
use Rattle.ospf_area.specs.Turns.{turn}
use Rattle.ospf_neighbour.specs.declared.machine.NbrEvent.TheVariants.{BadLsReq}
use Rattle.ospf_adjacency.specs.Answers.{copies_turn}
use Rattle.ospf_adjacency.proofs.Words.{asked_keys}
use Rattle.ospf_adjacency.proofs.KeyLists.{answers_are}
use Rattle.ospf_adjacency.proofs.answering.take_request.Goals as goal

pub returns-in_ok-send_to-in-Ok-Some-clause-turn : goal.returns-in_ok-send_to-in-Ok-Some-clause-turn
returns-in_ok-send_to-in-Ok-Some-clause-turn c =
    let i = c.args.at.now.iface in
    let local = c.args.at.now.local in
    let db = c.args.database.now in
    let before = turn c.args.neighbour.now c.args.outbox.now in
    let some = rw c.in-Ok-Some.field-0-is at c.in-Ok-Some.ensures.held in
    let held : all_held db c.args.requests ≡ true = some refl in
    let answers = rw c.in-Ok-Some.field-0-is at c.in-Ok-Some.ensures.keys in
    let are : c.in-Ok-Some.keys.keys ≡ asked_keys db c.args.requests =
    answers_are db c.args.requests c.in-Ok-Some.keys.keys c.entries-entries.ensures.database.rising answers held in
    c.in_ok-send_to-in-Ok-Some.ensures
    ∙ ap (λ (ks : List LsaKey). copies_turn i local c.args.delay db ks before) are
    ∙ ap (λ (b : Bool). if b then copies_turn i local c.args.delay db (asked_keys db c.args.requests) before else event_turn i local BadLsReq before) (sym held)

pub returns-in_ok-send_to-in-Ok-Some-clause-keys : goal.returns-in_ok-send_to-in-Ok-Some-clause-keys
returns-in_ok-send_to-in-Ok-Some-clause-keys c =
    let some = rw c.in-Ok-Some.field-0-is at c.in-Ok-Some.ensures.held in
    let held : all_held c.args.database.now c.args.requests ≡ true = some refl in
    let answers = rw c.in-Ok-Some.field-0-is at c.in-Ok-Some.ensures.keys in
    answers_are c.args.database.now c.args.requests c.in-Ok-Some.keys.keys c.entries-entries.ensures.database.rising answers held ∙ rw held refl

use Rattle.std.proofs.Common.{◌≡◌, ℕ, ◌-◌, ◌∙◌, ◌++◌, ◌∷◌, ◌||◌, [], List, length, nat_le, sym, ap}
use Rattle.ospf_neighbour.specs.Neighbour.{is_empty}
use Rattle.ospf_adjacency.specs.Packing.{bytes_in, goes_in}
use Rattle.ospf_adjacency.proofs.PackLemmas.{left_behind, left_whole, goes_by, packs_after, packs_anew}
use Rattle.ospf_adjacency.proofs.packing.add.Goals as goal
use Rattle.ospf_adjacency.proofs.packing.add.Goals.{then-not-goes_in+in_ok-send, else-not-goes_in}

pub returns-clause-left : goal.returns-clause-left
returns-clause-left c =
    let here : c.if-not-goes_in.left ≡ c.args.room - bytes_in c.if-not-goes_in.batch.items = elim c.if-not-goes_in.branch [
      | then-not-goes_in+in_ok-send w ↦ left_whole c.args.room c.if-not-goes_in.left c.if-not-goes_in.batch.items w.left-is (rw w.batch-is (rw w.replace-full.ensures.after w.new.ensures.items))
      | else-not-goes_in w ↦ (rw (w.left-is, w.batch-is) c.requires)
    ] in
    c.saturating_sub.ensures ∙ ap (λ (l : List ℕ). c.if-not-goes_in.left - length l) (c.as_bytes-length.ensures.bytes ∙ c.view.ensures.same)
    ∙ left_behind c.args.room c.if-not-goes_in.left c.if-not-goes_in.batch.items c.args.lsa here ∙ ap (λ (b : List (List ℕ)). c.args.room - bytes_in b) (sym c.in_ok-push.ensures.items)

pub returns-clause-sent : goal.returns-clause-sent
returns-clause-sent c = λ rest.
    let by : c.goes_in.result ≡ goes_in c.args.room c.args.batch.now.items c.args.lsa =
    goes_by c.args.room c.args.left.now c.args.batch.now.items c.args.lsa c.goes_in.result c.requires
    (c.goes_in.ensures ∙ ap (λ (b : List (List ℕ)). is_empty b || nat_le (length c.as_bytes-length.result.now) c.args.left.now) c.deref.ensures.value
    ∙ ap (λ (l : List ℕ). is_empty c.args.batch.now.items || nat_le (length l) c.args.left.now) (c.as_bytes-length.ensures.bytes ∙ c.view.ensures.same)) in
    elim c.if-not-goes_in.branch [
      | then-not-goes_in+in_ok-send w ↦
          packs_anew c.args.room c.args.destination c.args.batch.now.items c.push.new.self.items c.args.lsa rest c.args.outbox.now c.if-not-goes_in.outbox
          (sym w.if-not-goes_in.true ∙ by)
          (rw w.outbox-is (w.in_ok-send.ensures ∙ rw w.replace-full.ensures.value))
          (c.in_ok-push.ensures.items ∙ rw w.batch-is (rw w.replace-full.ensures.after (ap (λ (b : List (List ℕ)). b ++ c.args.lsa ∷ []) w.new.ensures.items)))
      | else-not-goes_in w ↦
          packs_after c.args.room c.args.destination c.args.batch.now.items c.push.new.self.items c.args.lsa rest c.args.outbox.now c.if-not-goes_in.outbox
          (sym w.if-not-goes_in.false ∙ by)
          (rw w.outbox-is) (c.in_ok-push.ensures.items ∙ rw w.batch-is)
    ]

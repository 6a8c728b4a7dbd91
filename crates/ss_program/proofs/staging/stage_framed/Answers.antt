use Rattle.ss_program.proofs.Common.{◌≡◌, ◌∙◌, ◌++◌, ◌∷◌, [], true, false, None, Err, Ok, Result, sym, ap, rules, IsTrue, Do, added, refuses, state, shown_by}
use Rattle.ss_program.proofs.Common.{Reply, AllAgree-recovered, Stands, History, accepted_frame, command_brings, command_in, Staged, Status, step-as}
use Rattle.ss_program.proofs.AnswerLemmas.{brings-accepted}
use Rattle.ss_program.proofs.FrameLemmas.{Turns-answered, frame-done, frame-other, replies-framed, same-event}
use Rattle.ss_program.proofs.StepLemmas.{step-given}
use Rattle.ss_program.proofs.staging.stage_framed.Goals.{in-Done, in_default, in_default-via-in-Done+else-framed, in_default-via-in_default}
use Rattle.ss_program.proofs.staging.stage_framed.Goals as goal

pub returns-in_err-reply-clause-stages : goal.returns-in_err-reply-clause-stages
returns-in_err-reply-clause-stages g c =
    let old = g.D.Disk.seen c.args.disk.now in
    let new = g.D.Disk.seen c.stage.new.disk in
    let framed = c.args.framed in
    let event = c.args.event.now in
    let was = c.args.store.now.records in
    let is = c.stage.new.store.records in
    let status = c.in_err-reply.field-0.0 in
    let same : c.from_residual.result ≡ Err status = search rules in
    let stages = c.in_err-reply.ensures.stages in
    let before : Result Reply Status = Err status in
    let after : Result Staged Status = Err status in
    rw same (step-as stages (λ stepped. record {
      turns = λ history. Turns-answered was is history old.told new.told (command_brings history (Do event)).event
          (command_in framed history (Do event)).event before after (same-event framed history event) (λ X has. tt) (stepped.turns history);
      replies = λ history stands. tt;
      frame = λ says history stands. tt;
    }))

-- the frame of an event that is acknowledged
found : (g : _) → (c : goal.Joined-reply g) → c.args.framed ≡ true → IsTrue (g.D.Disk.seen c.args.disk.now).tells → (history : History) →
    Stands history (shown_by c.args.store.now.records (g.D.Disk.seen c.args.disk.now).told.content) →
    c.match-reply.frame ≡ accepted_frame (refuses (state history) c.args.event.now) history c.args.event.now
found g c says told history stands =
    let event = c.args.event.now in
    let stages = c.in_ok-reply.ensures.stages in
    let reply = c.in_ok-reply.reply in
    let frame = c.match-reply.frame in
    let refusal = refuses (state history) event in
    let one = (stages.told told).reply history stands in
    elim c.match-reply.branch [
      | in-Done w ↦ (
          frame-done history event refusal w.in-Done.field-0 frame
          (one ∙ ap (λ (r : Reply). r ∷ []) w.in-Done.is)
          (λ none.
          let store = c.stage.new.store in
          let image = shown_by store.records (g.D.Disk.seen c.stage.new.disk).told.content in
          let after : Stands (history ++ added event ∷ []) image =
          rw brings-accepted at (((stages.told told).turns history).content stands) in
          let kept = (c.in_ok-reply.ensures.serves.kept (stages.tells ∙ told)).shown in
          w.frame-is ∙ w.frame_after-frame.ensures history after.is_history
          (AllAgree-recovered store image (state (history ++ added event ∷ [])) kept after.state).0))
      | in_default w ↦ elim w.in_default.branch [
        | in_default-via-in-Done+else-framed w' ↦ (let wrong = sym says ∙ w'.if-framed.false in cc)
        | in_default-via-in_default w' ↦
            frame-other history event refusal reply frame one (λ ack is. w'.in_default.not-Done ack is) w.frame-is
      ]
    ]

none : (g : _) → (c : goal.Joined-reply g) → c.args.framed ≡ false → c.match-reply.frame ≡ None
none g c silent = elim c.match-reply.branch [
  | in-Done w ↦ (let wrong = sym silent ∙ w.if-framed.true in cc)
  | in_default w ↦ w.frame-is
]

pub returns-clause-stages : goal.returns-clause-stages
returns-clause-stages g c =
    let old = g.D.Disk.seen c.args.disk.now in
    let new = g.D.Disk.seen c.stage.new.disk in
    let framed = c.args.framed in
    let event = c.args.event.now in
    let was = c.args.store.now.records in
    let is = c.stage.new.store.records in
    let reply = c.in_ok-reply.reply in
    let stages = c.in_ok-reply.ensures.stages in
    let before : Result Reply Status = Ok reply in
    let after : Result Staged Status = Ok (record { reply = reply; frame = c.match-reply.frame }) in
    step-given stages (λ told stepped. record {
      turns = λ history. Turns-answered was is history old.told new.told (command_brings history (Do event)).event
          (command_in framed history (Do event)).event before after (same-event framed history event) (λ X has. has) (stepped.turns history);
      replies = λ history stands. replies-framed framed history event (refuses (state history) event) reply c.match-reply.frame
          (stepped.reply history stands) (λ says. found g c says told history stands) (none g c);
      frame = λ says history stands. found g c says told history stands;
    })

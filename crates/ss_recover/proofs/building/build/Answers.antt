use Rattle.ss_recover.proofs.Common.{◌&&◌, ◌∙◌, ◌≡◌, and_from, ap, ap₂, are_marks, are_sound, keep_step, Landmark, landmarks_made, later, lies_free, List}
use Rattle.ss_recover.proofs.Common.{list_all, marks_in, Params, refl, step_number, subst, sym, tile, times_rise, true, windows_in, without_slots}
use Rattle.ss_recover.proofs.building.build.Goals as goal

pub returns : goal.returns
returns g c =
    let rest = c.args.rest.now in
    let ws = windows_in c.args.head.id (without_slots rest) in
    let ms = marks_in c.args.head.id (without_slots rest) in
    let made = c.in_ok-marks.ensures.ok in
    let windows = c.in_ok-windows.ensures.ok in
    let tiles : tile ws ≡ true = sym c.tile.ensures ∙ c.if-not-tile.false in
    let rises : times_rise ws ≡ true = sym c.times_rise.ensures ∙ c.if-not-times_rise.false in
    let are : are_marks ms ≡ true = sym c.are_marks.ensures ∙ c.if-not-are_marks.false in
    let keeps : keep_step (step_number c.args.head.params.within) ws ≡ true =
    subst (λ (p : Params). keep_step (step_number p.within) ws ≡ true) c.in-Ok.ensures.params (sym c.keep_step.ensures ∙ c.if-not-keep_step.false) in
    let free : list_all (lies_free (landmarks_made ms)) ws ≡ true =
    ap (λ (ls : List Landmark). list_all (lies_free ls) ws) (sym made.landmarks) ∙ sym c.lie_free.ensures ∙ c.if-not-lie_free.false in (
      and_from (are_sound ws ms) (keep_step (step_number c.args.head.params.within) ws)
          (and_from (tile ws && times_rise ws && are_marks ms) (list_all (lies_free (landmarks_made ms)) ws)
          (and_from (tile ws && times_rise ws) (are_marks ms) (and_from (tile ws) (times_rise ws) tiles rises) are) free) keeps,
      record {
        id = refl;
        name = refl;
        params = c.in-Ok.ensures.params;
        in_slot = refl;
        last_time = c.later.ensures ∙ ap₂ later windows.newest made.latest;
        landmarks = made.landmarks;
        known = c.in_ok-marks.ensures.known;
        kept = record {
          positions = windows.positions;
          times = windows.times;
          entries = windows.entries;
          slots = made.slots;
          value_slots = made.value_slots;
        };
      },
    )

use Rattle.std.proofs.Common.{rules, ap, sym, take}
use Rattle.adf_memory.specs.Words.{in_memory}
use Rattle.adf_memory.proofs.Rooms.{moved_ends}
use Rattle.adf_memory.proofs.running.run_in_memory.Goals as goal

pub returns : goal.returns
returns g c =
    let old = c.new-output_room.result in
    let new = c.run_words-ran.new.output in
    let old_e = c.new-errors_room.result in
    let new_e = c.run_words-ran.new.errors in
    record {
      ends = moved_ends (in_memory g.P.Program.command) c.args.words.now c.args.input.now c.run_words-ran.result.status new.full new_e.full
          old.room.ghost_name new.room.ghost_name old_e.room.ghost_name new_e.room.ghost_name
          (take old.taken old.room.now) (take new.taken new.room.now) (take old_e.taken old_e.room.now) (take new_e.taken new_e.room.now)
          (ap (λ i. take i old.room.now) c.new-output_room.ensures.taken) (ap (λ i. take i old_e.room.now) c.new-errors_room.ensures.taken)
          c.run_words-ran.ensures.ends _ _ _ _ (λ un. let same = c.run_words-ran.ensures.untouched un in cc)
          (λ same. search rules) (λ same. search rules) (sym c.of.ensures.output_full) (sym c.of.ensures.errors_full);
      untouched = search rules;
      consumed = search rules;
      output = search rules;
      errors = search rules;
    }

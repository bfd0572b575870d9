use Rattle.adf_words.specs.CommandLine.{texts_of}
use Rattle.adf_memory.proofs.{MemoryWords.ends_in_memory, MemoryWords.consumed_in_memory, WordParts.read_as}
use Rattle.adf_memory.proofs.running.run_words.Goals as goal

pub returns-in-Ok-clause-ends : goal.returns-in-Ok-clause-ends
returns-in-Ok-clause-ends g c =
    let are = read_as c.args.words.now c.deref.result.now c.in-Ok.texts.items c.deref.ensures.value c.in-Ok.ensures.ok in
    ends_in_memory g.P.Program.command c.args.words.now (texts_of c.deref.result.now) are c.args.input.now _ _ _ c.run_program_on.ensures.ends

pub returns-in-Ok-clause-consumed : goal.returns-in-Ok-clause-consumed
returns-in-Ok-clause-consumed g c =
    let are = read_as c.args.words.now c.deref.result.now c.in-Ok.texts.items c.deref.ensures.value c.in-Ok.ensures.ok in
    consumed_in_memory g.P.Program.command c.args.words.now (texts_of c.deref.result.now) are c.args.input.now _ _ c.run_program_on.ensures.consumed

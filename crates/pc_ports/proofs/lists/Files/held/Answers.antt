use Rattle.std.proofs.Common.{sym, ap, ◌∙◌, string_bytes}
use Rattle.pc_ports.specs.Outside.{Held}
use Rattle.pc_ports.proofs.Holdings.{held_at_found, held_at_none}
use Rattle.pc_ports.proofs.lists.Files.held.Goals as goal

pub returns-in-Some : goal.returns-in-Some
returns-in-Some c =
    let found = rw c.deref.ensures.value at c.in-Some.ensures in
    rw (← c.self.view_is)
    (held_at_found c.self.inside.files.items (λ file. (string_bytes file.0, file.1.items)) c.args.name.now c.in-Some.file.now found
    ∙ ap Held (sym c.as_slice.ensures.value))

pub returns-in-None : goal.returns-in-None
returns-in-None c =
    let found = rw c.deref.ensures.value at c.in-None.ensures in
    rw (← c.self.view_is)
    (held_at_none c.self.inside.files.items (λ file. (string_bytes file.0, file.1.items)) c.args.name.now found)

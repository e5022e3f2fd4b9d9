use Rattle.std.proofs.Common.{rules, ◌∙◌, ◌≢◌, Err, ap, drop, sym, take}
use Rattle.office_http.specs.declared.messages.commands.fault.CommandFault.TheVariants.{Memory}
use Rattle.office_http.specs.Messages.HeadTests.{start_at}
use Rattle.office_http.specs.Messages.Tests.{post_headers_of}
use Rattle.office_http.specs.Messages.Replies.{asked_with}
use Rattle.office_http.proofs.WantsLemmas.Outcomes.{a_command, found_out, kept_same, no_command}
use Rattle.office_http.proofs.wants.requests.wanted_command.Goals as goal

pub returns-in-Err-clause-wants : goal.returns-in-Err-clause-wants
returns-in-Err-clause-wants c =
    let memory : c.command_in-given.result ≢ Err Memory = search rules in
    no_command c.bodies_give_one_command.ensures _ _ _ _ _ c.command_in-given.result c.in-Err.why c.in-Err.is
    (found_out c.args.router.now c.args.bytes.now c.args.head.now c.args.found.now c.args.posted.now _ _ _ c.requires.holds c.requires.asks
    c.name_asked.ensures (c.request_body-body.ensures ∙ ap (λ n. take n (drop c.args.head.now.len c.args.bytes.now)) (sym c.head_gives_body_size.ensures)) c.command_in-given.ensures.given memory c.commands_are_replied_to.ensures)

pub returns-in-Ok-kept_request-clause-wants : goal.returns-in-Ok-kept_request-clause-wants
returns-in-Ok-kept_request-clause-wants c =
    let memory : c.command_in-given.result ≢ Err Memory = search rules in
    let headers = post_headers_of (start_at c.args.bytes.now c.args.head.now).headers in
    let kept = c.in-Ok-kept_request.ensures ∙ kept_same _ _ _ _ _ _ c.of.ensures c.of-in-Ok.ensures (c.request_body-body.ensures ∙ ap (λ n. take n (drop c.args.head.now.len c.args.bytes.now)) (sym c.head_gives_body_size.ensures)) in
    a_command _ _ _ _ _ c.command_in-given.result c.in-Ok.command c.asked.result c.in-Ok.is
    (found_out c.args.router.now c.args.bytes.now c.args.head.now c.args.found.now c.args.posted.now _ _ _ c.requires.holds c.requires.asks
    c.name_asked.ensures (c.request_body-body.ensures ∙ ap (λ n. take n (drop c.args.head.now.len c.args.bytes.now)) (sym c.head_gives_body_size.ensures)) c.command_in-given.ensures.given memory c.commands_are_replied_to.ensures)
    (c.asked.ensures headers c.requires.asks.1.2 ∙ ap (λ k. asked_with headers k c.in-Ok.command) kept)

use Rattle.std.proofs.Common.{◌≡◌, ◌∙◌, ℕ, ◌+◌, List, length, Some, None, sym, ap, subst, arith}
use Rattle.mig_packet.specs.declared.page_reader.ChannelEvent.TheVariants as event
use Rattle.mig_packet.specs.declared.state.ChannelState.TheVariants.{Bad}
use Rattle.mig_packet.specs.Faults.{first_of}
use Rattle.mig_packet.specs.Hello.{hello_len, hello_faults}
use Rattle.mig_packet.specs.Reading.{Settings, settings, with_waiting}
use Rattle.mig_packet.specs.Paging.{PageHolder}
use Rattle.mig_packet.specs.PagingStep.{Steps}
use Rattle.mig_packet.proofs.PagingHello.{holder, hello_over, hello_read}
use Rattle.mig_packet.proofs.page_reader.PageReader.read_hello.Goals as goal

pub returns-in-Some : goal.returns-in-Some
returns-in-Some g c =
    let r = c.self.inside in
    let given : Settings = with_waiting r.waiting (settings r.page_size r.uuid r.channels) in
    let n : ℕ = c.fill-taken.result in
    let head : List ℕ = c.fill-taken.new.kept.items in
    let long : length head ≡ hello_len = omega (arith, c.fill-taken.ensures.len, c.len.ensures) in
    let faulty : first_of (hello_faults given.uuid given.channels head) ≡ Some c.in-Some.fault =
    ap (λ (x : List ℕ). first_of (hello_faults given.uuid given.channels x)) (sym c.deref.ensures.value) ∙ sym c.hello_fault.ensures ∙ c.in-Some.is in
    subst (λ (x : PageHolder). Steps event.Over n c.args.piece.now x
    (holder given r.hello r.has_packets r.room r.pages r.has_page head r.page.items (Bad c.in-Some.fault) (r.fed + n) r.ended)) c.self.view_is
    (hello_over given r.hello r.has_packets r.room r.pages r.has_page r.head.items r.page.items head c.args.piece.now r.found r.fed n r.ended c.in-Some.fault
    (ap (λ (x : PageHolder). x.packet) c.self.view_is ∙ c.requires.none_begun) (ap (λ (x : PageHolder). x.hello) c.self.view_is ∙ c.requires.none_yet)
    (ap (λ (x : PageHolder). x.found) c.self.view_is ∙ c.requires.reading.0) c.fill-taken.ensures.taken c.fill-taken.ensures.items long faulty)

pub returns : goal.returns
returns g c =
    let r = c.self.inside in
    let given : Settings = with_waiting r.waiting (settings r.page_size r.uuid r.channels) in
    let n : ℕ = c.fill-taken.result in
    let head : List ℕ = c.fill-taken.new.kept.items in
    let long : length head ≡ hello_len = omega (arith, c.fill-taken.ensures.len, c.len.ensures) in
    let free : first_of (hello_faults given.uuid given.channels head) ≡ None =
    ap (λ (x : List ℕ). first_of (hello_faults given.uuid given.channels x)) (sym c.deref.ensures.value) ∙ sym c.hello_fault.ensures ∙ c.in_default.is in
    subst (λ (x : PageHolder). Steps (event.Hello c.index-id.result.now) n c.args.piece.now x
    (holder given (Some c.index-id.result.now) r.has_packets r.room r.pages r.has_page c.clear.new.self.items r.page.items r.found
    (r.fed + n) r.ended)) c.self.view_is
    (hello_read given r.hello r.has_packets r.room r.pages r.has_page r.head.items r.page.items head c.clear.new.self.items
    c.args.piece.now r.found r.fed n r.ended
    c.index-id.result.now (ap (λ (x : PageHolder). x.packet) c.self.view_is ∙ c.requires.none_begun)
    (ap (λ (x : PageHolder). x.hello) c.self.view_is ∙ c.requires.none_yet) (ap (λ (x : PageHolder). x.found) c.self.view_is ∙ c.requires.reading.0)
    c.self.invariant.is_part c.fill-taken.ensures.taken c.fill-taken.ensures.items long free c.index-id.ensures c.clear.ensures.items)

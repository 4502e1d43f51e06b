-- The newest gets the place as its newer neighbour, and the place the newest as its older one.
use Rattle.std.proofs.Common.{◌≡◌, ℕ, length, refl, ap, ◌∙◌, arith}
use Rattle.saa_core_words.specs.declared.line_word.LineWord.{LineWord}
use Rattle.saa_core_words.specs.Links.{Waiters, IsLinked, followed, words_in}
use Rattle.saa_core_words.proofs.Linking.{IsLinked-followed, IsLinked-joined, IsLinked-newest}
use Rattle.saa_core_words.proofs.links.Links.push.Goals as goal

pub overflow_add-link : goal.overflow_add-link
overflow_add-link g c =
    let room : length c.self.inside.words.items ≡ c.args.self.now.room = ap (λ (s : Waiters). s.room) c.self.view_is in
    omega (arith, c.requires.within, room, c.self.invariant.small)

pub set_newer-requires : goal.set_newer-requires
set_newer-requires g c = IsLinked-newest _ _ _ _ _ _ c.self.invariant

pub invariant_of-self : goal.invariant_of-self
invariant_of-self g c =
    let lines : followed (words_in c.self.inside.words.items) g.K.Requests.read c.self.inside.waiting c.self.inside.oldest ≡ c.args.self.now.line = ap (λ (s : Waiters). s.line) c.self.view_is in
    let room : length c.self.inside.words.items ≡ c.args.self.now.room = ap (λ (s : Waiters). s.room) c.self.view_is in
    let was : IsLinked g.K.Requests.read c.self.inside.words.items c.self.inside.oldest c.self.inside.newest c.self.inside.waiting c.args.self.now.line = rw (← lines) c.self.invariant in
    let is = IsLinked-joined g.K.Requests.read c.self.inside.words.items c.store.new.words.items c.self.inside.oldest c.self.inside.newest c.self.inside.waiting
    c.args.self.now.line c.args.place c.args.request was
    c.requires.absent (omega (arith, c.requires.within, room)) (c.store.ensures.size ∙ c.set_newer.ensures.size) c.requires.asked
    (λ other apart before. c.store.ensures.same other apart ∙ c.set_newer.ensures.same other before)
    (λ other apart newest. c.store.ensures.same other apart ∙ c.set_newer.ensures.written other newest)
    (c.store.ensures.written ∙ ap (λ (n : ℕ). let w : LineWord = record { request = n; older = c.self.inside.newest; newer = 0 } in w) c.request_number.ensures) in
    let met = IsLinked-followed _ _ _ _ _ _ is in
    rw (c.end_after-self-inside.ensures, met) is

pub returns : goal.returns
returns g c =
    let lines : followed (words_in c.self.inside.words.items) g.K.Requests.read c.self.inside.waiting c.self.inside.oldest ≡ c.args.self.now.line = ap (λ (s : Waiters). s.line) c.self.view_is in
    let room : length c.self.inside.words.items ≡ c.args.self.now.room = ap (λ (s : Waiters). s.room) c.self.view_is in
    let was : IsLinked g.K.Requests.read c.self.inside.words.items c.self.inside.oldest c.self.inside.newest c.self.inside.waiting c.args.self.now.line = rw (← lines) c.self.invariant in
    let is = IsLinked-joined g.K.Requests.read c.self.inside.words.items c.store.new.words.items c.self.inside.oldest c.self.inside.newest c.self.inside.waiting
    c.args.self.now.line c.args.place c.args.request was
    c.requires.absent (omega (arith, c.requires.within, room)) (c.store.ensures.size ∙ c.set_newer.ensures.size) c.requires.asked
    (λ other apart before. c.store.ensures.same other apart ∙ c.set_newer.ensures.same other before)
    (λ other apart newest. c.store.ensures.same other apart ∙ c.set_newer.ensures.written other newest)
    (c.store.ensures.written ∙ ap (λ (n : ℕ). let w : LineWord = record { request = n; older = c.self.inside.newest; newer = 0 } in w) c.request_number.ensures) in
    let met = IsLinked-followed _ _ _ _ _ _ is in
    let size : length c.store.new.words.items ≡ c.args.self.now.room = c.store.ensures.size ∙ c.set_newer.ensures.size ∙ room in
    rw (c.end_after-self-inside.ensures, met, size) refl

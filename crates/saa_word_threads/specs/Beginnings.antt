-- What a call under way began with. Internal: nobody has to believe this; private functions are held to it.
use Rattle.saa_word_steps.specs.declared.call.WordCall.{WordCall}
use Rattle.saa_word_steps.specs.declared.place.Registration.{Registration}
use Rattle.saa_word_threads.specs.declared.table.View.{View}

-- the call, what its place was registered as, and the view that it began at
pub record Beginning : Type 0 where
  pub call : WordCall
  pub was : Registration
  pub view : View

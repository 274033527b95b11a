mod DemoLemmas
mod TextLemmas
mod CountLemmas
